-- A loop over the cores' loads that changes that of one core, c: how far it has come. Before core 1 stands an entry for
-- choice 0, which is no core, so that the row of choices is changed at entry c.
use Prim.Native.Nat.{ℕ, zero, suc, ◌+◌, ◌-◌, ◌≤◌, ◌<◌}
use native.Mathlib.Numerals.{add-one}
use native.Mathlib.Omega.{arith}
use mathlib.Core.Path.{◌≡◌, refl, ap, ◌∙◌}
use mathlib.Core.Bool.{cond}
use mathlib.Core.List.{List, ◌∷◌}
use lib.Dec.{eqb}
use lib.ListN.{get_or, set, drop}
use borrow.Author.Tests.{ne_eqb}
use Rattle.blend.specs.Entry.{on_core}
use Rattle.blend.proofs.OneEntry.{Changing, change_start, change_by, change_done, room_more, room_less}

-- the loop has come to entry k of the loads
abbrev pub OnCores : (ℕ → ℕ → ℕ) → List ℕ → ℕ → ℕ → List ℕ → ℕ → Type 0
OnCores f l c d row k = Changing f (d ∷ l) c d 5 (f d (cond (eqb c 0) d 0) ∷ row) (suc k)

module _ (f : ℕ → ℕ → ℕ) (none : (y : ℕ) → f y 0 ≡ y) where
  pub cores_start : (l : List ℕ) (c d : ℕ) → OnCores f l c d l 0
  cores_start l c d = change_by (change_start f (d ∷ l) c d 5) refl none (omega arith)

  pub cores_next : {l : List ℕ} {c d : ℕ} {row : List ℕ} {k p : ℕ} → OnCores f l c d row k → p ≡ cond (eqb c (k + 1)) d 0 → k < 4
      → OnCores f l c d (set row k (f (get_or row k 0) p)) (k + 1)
  cores_next {l} {c} {d} {row} {k} s e h = rw (add-one k) (rw (add-one (suc k)) at (change_by s (rw (add-one k) at e) none (omega arith)))

  -- what is left of the loads, once choice 0 is taken away
  cores_of_lem : (l : List ℕ) (c d : ℕ) → drop 1 (set (d ∷ l) c (f (get_or (d ∷ l) c 0) d)) ≡ on_core (λ x. f x d) l c
  unfolding on_core
  cores_of_lem l zero d = refl
  cores_of_lem l (suc k) d = refl

  pub cores_done : {l : List ℕ} {c d : ℕ} {row : List ℕ} {k : ℕ} → OnCores f l c d row k → c < 5 → 4 ≤ k → row ≡ on_core (λ x. f x d) l c
  cores_done {l} {c} {d} s b h = ap (drop 1) (change_done s b (omega arith)) ∙ cores_of_lem l c d

  -- beside what is rejected, the row of choices is changed at entry c
  pub row_changed : (out : ℕ) (l : List ℕ) (c d : ℕ) → f out (cond (eqb c 0) d 0) ∷ on_core (λ x. f x d) l c ≡ set (out ∷ l) c (f (get_or (out ∷ l) c 0) d)
  unfolding on_core
  row_changed out l zero d = refl
  row_changed out l (suc k) d = rw (ne_eqb (suc k) 0 (λ q. omega arith), none out)

module _ {l : List ℕ} {c d : ℕ} {row : List ℕ} {k p : ℕ} (e : p ≡ cond (eqb c (k + 1)) d 0) where
  pub cores_more : OnCores ◌+◌ l c d row k → ((i : ℕ) → get_or l i 0 + d < 4294967296) → get_or row k 0 + p < 4294967296
  cores_more s h = room_more s (rw (add-one k) at e) (h k)

  pub cores_less : OnCores ◌-◌ l c d row k → d ≤ get_or (d ∷ l) c 0 → p ≤ get_or row k 0
  cores_less s h = room_less s (rw (add-one k) at e) h
