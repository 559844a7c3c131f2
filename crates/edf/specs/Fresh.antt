-- The tasks of a core, and the record that it starts from.
use Rattle.std.specs.Prelude.{ℕ, cond, List, eqb}
use Rattle.numbers.specs.Rows.{row, entry}
use Rattle.edf.specs.declared.Slot.{Slot}
use Rattle.edf.specs.Slots.{empty_slot}

-- A table's n tasks under a placement, and the board's switch charge. Entry k of each list is that of task number k + 1; in the placement it is
-- a core, or 0 for rejected. A first release is a tick, counted from 0.
pub record Tasks : Type 0 where
  pub n : ℕ
  pub periods : List ℕ
  pub budgets : List ℕ
  pub placement : List ℕ
  pub charge : ℕ
  pub first_releases : List ℕ

abbrev pub period : Tasks → ℕ → ℕ
period tasks k = entry tasks.periods k

abbrev pub budget : Tasks → ℕ → ℕ
budget tasks k = entry tasks.budgets k

abbrev pub core_of : Tasks → ℕ → ℕ
core_of tasks k = entry tasks.placement k

abbrev pub first_release : Tasks → ℕ → ℕ
first_release tasks k = entry tasks.first_releases k

-- the slot of a task placed on the given core: nothing is owed, and its first release is to come; all zeros if it is placed on another
abbrev pub slot_for : ℕ → ℕ → ℕ → ℕ → ℕ → Slot
slot_for period budget first placed core = cond (eqb placed core) (record { period = period; budget = budget; until = first; remaining = 0 }) empty_slot

-- the same of the task at k
unfoldable pub fresh_slot : Tasks → ℕ → ℕ → Slot
fresh_slot tasks core k = slot_for (period tasks k) (budget tasks k) (first_release tasks k) (core_of tasks k) core

-- the record that ticks start from, the paper's fresh core record where every first release is 0: slot k is task k's, and the slots beyond n
-- are all zeros
unfoldable pub fresh_slots : Tasks → ℕ → List Slot
fresh_slots tasks core = row empty_slot tasks.n (fresh_slot tasks core)
