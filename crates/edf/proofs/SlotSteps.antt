-- The steps of a tick, slot by slot.
use Prim.Native.Nat.{ℕ, suc}
use mathlib.Core.Path.{◌≡◌, refl, ap, ◌∙◌}
use mathlib.Core.List.{List}
use lib.Dec.{eqb}
use lib.ListN.{length}
use Rattle.numbers.proofs.BoolLaws.{cond_both}
use Rattle.edf.specs.declared.Slot.{Slot}
use Rattle.edf.specs.Slots.{empty_slot, slot_at, each}
use Rattle.edf.specs.Tick.{release, release_all, run, advance, advance_all}
use Rattle.edf.proofs.SlotLaws.{each_at, length-each}

module _ (charge : ℕ) (requests : List ℕ) (slots : List Slot) where
  pub ready_at : (i : ℕ) → slot_at (release_all charge requests slots) i ≡ release charge requests (suc i) (slot_at slots i)
  unfolding release_all release
  ready_at i = each_at (release charge requests) (λ k. refl) slots i

  pub ready-length : length (release_all charge requests slots) ≡ length slots
  unfolding release_all
  ready-length = length-each (release charge requests) 1 slots

module _ (j : ℕ) (ready : List Slot) where
  pub ran-at : (i : ℕ) → slot_at (each (run j) ready) i ≡ run j (suc i) (slot_at ready i)
  ran-at i = each_at (run j) (λ k. cond_both (λ s. s ≡ empty_slot) (eqb k j) _ _ refl refl) ready i

  pub advanced-at : (i : ℕ) → slot_at (advance_all j ready) i ≡ advance (suc i) (run j (suc i) (slot_at ready i))
  unfolding advance_all
  advanced-at i = each_at advance (λ k. refl) (each (run j) ready) i ∙ ap (advance (suc i)) (ran-at i)

  pub advanced-length : length (advance_all j ready) ≡ length ready
  unfolding advance_all
  advanced-length = length-each advance 1 (each (run j) ready) ∙ length-each (run j) 1 ready
