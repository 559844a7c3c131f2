-- A slot as it is read from the slots of a record.
use Prim.Native.Nat.{ℕ, zero, suc, ◌<◌}
use mathlib.Core.Path.{◌≡◌, refl, ap, ◌∙◌}
use mathlib.Core.Bool.{Bool}
use mathlib.Core.List.{List, [], ◌∷◌}
use native.Mathlib.Omega.{arith}
use lib.ListN.{length, get_or}
use Rattle.edf.specs.declared.Slot.{Slot}
use Rattle.edf.specs.Slots.{empty_slot, slot_test}

-- An element of a list, whatever stands for one past the end.
pub get_d_any : {A : Type 0} (l : List A) (i : ℕ) (d e : A) → i < length l → get_or l i d ≡ get_or l i e
get_d_any [] i d e h = absurd (omega arith)
get_d_any (x ∷ l) zero d e h = refl
get_d_any (x ∷ l) (suc i) d e h = get_d_any l i d e (omega arith)

-- A loop that looks for the first slot of which a test holds: the test of the slot at i.
pub tested : (test : Slot → Bool) (slots : List Slot) (i : ℕ) (d : Slot) {r : Bool} → length slots ≡ 16 → i < 16
    → r ≡ test (get_or slots i d) → r ≡ slot_test test slots i
unfolding slot_test
tested test slots i d size h e = e ∙ ap test (get_d_any slots i d empty_slot (omega arith))
