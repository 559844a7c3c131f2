-- Which records a tick takes, by their charge and their slots, and how it refuses the others.
use Rattle.std.specs.Prelude.{ℕ, ◌≤◌, ◌<◌, List, [], ◌∷◌}
use Rattle.refusal.specs.Conditions.{Condition, only, at}
use Rattle.edf.specs.declared.Slot.{Slot}
use Rattle.edf.specs.Slots.{slot_at, CanBe}

-- the charge is at most 9, and every slot can be
pub record ValidRecord (charge : ℕ) (slots : List Slot) : Type 0 where
  pub charge_most : charge ≤ 9
  pub slots_can_be : (i : ℕ) → i < 16 → CanBe charge (slot_at slots i)

-- its refusals, both number 12: the charge is above 9, with place 0, or a slot cannot be
abbrev pub record_conditions : ℕ → List Slot → List Condition
record_conditions charge slots = only 12 (9 < charge) ∷ at 12 (λ i. CanBe charge (slot_at slots i) → ⊥) 16 ∷ []
