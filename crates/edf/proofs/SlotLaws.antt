-- Laws of lists of slots: a change of each of them, and sums over them.
use Prim.Native.Nat.{ℕ, zero, suc, ◌+◌, ◌-◌, ◌≤◌, zero-le}
use mathlib.Core.Path.{◌≡◌, refl, sym, ap, ◌∙◌}
use mathlib.Core.List.{List, [], ◌∷◌}
use native.Mathlib.Omega.{arith}
use native.Mathlib.Nat.{le_refl, add-zero, add-suc, suc-add}
use lib.ListN.{length}
use Rattle.numbers.specs.Rows.{tab, up_to, row}
use Rattle.numbers.specs.Sums.{sum_to}
use Rattle.numbers.proofs.RowLaws.{up_to-below, up_to_above}
use Rattle.numbers.proofs.SumLaws.{sum_to_cong, sum_to-front, sum_to_above}
use Rattle.edf.specs.declared.Slot.{Slot}
use Rattle.edf.specs.Slots.{empty_slot, slot_at, each_from, each}

-- A change of each slot that leaves the empty slot as it is.
module _ (f : ℕ → Slot → Slot) (empty : (k : ℕ) → f k empty_slot ≡ empty_slot) where
  at_each : (k : ℕ) (slots : List Slot) (i : ℕ) → slot_at (each_from k f slots) i ≡ f (k + i) (slot_at slots i)
  at_each k [] i = sym (empty (k + i))
  at_each k (s ∷ slots) zero = rw (add-zero k) refl
  at_each k (s ∷ slots) (suc i) = rw (add-suc k i, ← suc-add k i) (at_each (suc k) slots i)

  pub each_at : (slots : List Slot) (i : ℕ) → slot_at (each f slots) i ≡ f (suc i) (slot_at slots i)
  each_at slots i =
      let one : 1 + i ≡ suc i = omega arith in
      rw one at (at_each 1 slots i)

pub length-each : (f : ℕ → Slot → Slot) (k : ℕ) (slots : List Slot) → length (each_from k f slots) ≡ length slots
length-each f k [] = refl
length-each f k (s ∷ slots) = ap suc (length-each f (suc k) slots)

-- one change after another
pub each-each : (f g : ℕ → Slot → Slot) (k : ℕ) (slots : List Slot) → each_from k g (each_from k f slots) ≡ each_from k (λ j s. g j (f j s)) slots
each-each f g k [] = refl
each-each f g k (s ∷ slots) = ap (λ (l : List Slot). g k (f k s) ∷ l) (each-each f g (suc k) slots)

-- A sum over slots.
abbrev pub total_over : (Slot → ℕ) → List Slot → ℕ
total_over g [] = 0
total_over g (s ∷ slots) = g s + total_over g slots

-- What bounds the sum of h bounds that of g after a change of each slot, where g is nowhere more than h was.
pub total-each : (g h : Slot → ℕ) (f : ℕ → Slot → Slot) (k : ℕ) (slots : List Slot)
    → ((j i : ℕ) → g (f j (slot_at slots i)) ≤ h (slot_at slots i))
    → (n : ℕ) → total_over h slots ≤ n → total_over g (each_from k f slots) ≤ n
total-each g h f k [] b n l = zero-le
total-each g h f k (s ∷ slots) b n l =
    omega (arith, b k 0, total-each g h f (suc k) slots (λ j i. b j (suc i)) (total_over h slots) (le_refl _))

-- The sum over a row is the sum over its entries, where the empty slot has none.
total-tab : (g : Slot → ℕ) (w : ℕ) (f : ℕ → Slot) → total_over g (tab w f) ≡ sum_to (λ k. g (f k)) w
unfolding tab sum_to
total-tab g zero f = refl
total-tab g (suc w) f = ap (λ z. g (f 0) + z) (total-tab g w (λ k. f (suc k))) ∙ sym (sum_to-front (λ k. g (f k)) w)

pub total-row : (g : Slot → ℕ) (n : ℕ) (f : ℕ → Slot) → g empty_slot ≡ 0 → n ≤ 16 → total_over g (row empty_slot n f) ≡ sum_to (λ k. g (f k)) n
unfolding row
total-row g n f e h =
    let w : n + (16 - n) ≡ 16 = omega arith in
    let at : ℕ → Slot = up_to empty_slot n f in
    total-tab g 16 at
    ∙ ap (sum_to (λ k. g (at k))) (sym w)
    ∙ sum_to_above (λ k. g (at k)) n (16 - n) (λ k b. ap g (up_to_above empty_slot n f k b) ∙ e)
    ∙ sum_to_cong (λ k. g (at k)) (λ k. g (f k)) n (λ k b. ap g (up_to-below empty_slot n f k b))
