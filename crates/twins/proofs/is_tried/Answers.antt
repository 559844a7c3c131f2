-- One law for each way out.
use Prim.Native.Nat.{ℕ}
use mathlib.Core.Path.{◌≡◌, sym, ◌∙◌, ap}
use mathlib.Core.Bool.{Bool, true, false, not, ◌&&◌}
use lib.Dec.{eqb}
use borrow.Author.Tests.{eq-eqb, ne_eqb}
use Rattle.twins.proofs.is_tried.Goals as goal

-- f is whether the core has room, as r says, l its load, and s whether a lower twin is empty
module _ {r f : Bool} (e : r ≡ f) where
  no_room : (x : Bool) → r ≡ false → false ≡ f && x
  no_room x n = ap (λ (b : Bool). b && x) (sym n ∙ e)

  module _ (n : r ≡ true) (l : ℕ) (s : Bool) where
    used : (l ≡ 0 → ⊥) → true ≡ f && not (eqb l 0 && s)
    used d = ap (λ (b : Bool). not (b && s)) (sym (ne_eqb l 0 d)) ∙ ap (λ (b : Bool). b && not (eqb l 0 && s)) (sym n ∙ e)

    empty : l ≡ 0 → {w : Bool} → w ≡ s → not w ≡ f && not (eqb l 0 && s)
    empty z q =
        ap not q
        ∙ ap (λ (b : Bool). not (b && s)) (sym (eq-eqb l 0 z))
        ∙ ap (λ (b : Bool). b && not (eqb l 0 && s)) (sym n ∙ e)

pub returns-then-not-has_room : goal.returns-then-not-has_room
returns-then-not-has_room c = no_room c.has_room.ensures _ c.if-not-has_room.true

pub returns-then-load-ne0 : goal.returns-then-load-ne0
returns-then-load-ne0 c = used c.has_room.ensures c.if-not-has_room.false _ _ c.if-load-ne0.true

pub returns : goal.returns
returns c = empty c.has_room.ensures c.if-not-has_room.false _ _ c.if-load-ne0.false c.some_empty_twin.ensures
