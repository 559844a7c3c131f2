-- The one pass of a tick over the slots, which releases, chooses and counts down: what it keeps from slot to slot, and what holds after each.
use Rattle.std.specs.Prelude.{ℕ, suc, ◌-◌, ◌≤◌, ◌<◌, ◌≡◌, ◌≢◌, List, length, take}
use Rattle.edf.specs.declared.Slot.{Slot}
use Rattle.edf.specs.declared.Claim.{Claim}
use Rattle.edf.specs.Slots.{slot_at, CanBe}
use Rattle.edf.specs.Tick.{first_late, release_all, chosen, advance}

-- The choice among some slots is the task that step 2 names, with its slot's ticks until release.
pub record ChoiceOf (ready : List Slot) (choice : Claim) : Type 0 where
  pub task_named : choice.task ≡ chosen ready
  pub until : choice.task ≢ 0 → choice.deadline ≡ (slot_at ready (choice.task - 1)).until

-- After i slots of the pass, where the record was `slots` before it and is `now`:
module _ (charge : ℕ) (requests : List ℕ) (slots : List Slot) (i : ℕ) where
  -- the slots up to there, after step 1
  abbrev pub ready_so_far : List Slot
  ready_so_far = release_all charge requests (take i slots)

  pub record AfterSlots (now : List Slot) (late : ℕ) (choice : Claim) : Type 0 where
    -- the late task and the choice so far are those that steps 1 and 2 name among the slots up to there,
    pub late_named : late ≡ first_late (take i slots)
    pub choice_named : ChoiceOf ready_so_far choice
    -- these have been through steps 1 and 3, and later slots are untouched.
    pub passed : (j : ℕ) → j < i → slot_at now j ≡ advance (suc j) (slot_at ready_so_far j)
    pub untouched : (j : ℕ) → i ≤ j → slot_at now j ≡ slot_at slots j
    pub sixteen : length now ≡ 16

-- every slot of a record can be
abbrev pub AllCanBe : ℕ → List Slot → Type 0
AllCanBe charge slots = (i : ℕ) → i < 16 → CanBe charge (slot_at slots i)

-- What the part of the pass over the slots from `from` up to `to` is asked with: this is what holds after `from` slots of a record whose slots can
-- all be.
pub record Passing (charge : ℕ) (requests : List ℕ) (slots : List Slot) (from to : ℕ) (now : List Slot) (late : ℕ) (choice : Claim) : Type 0 where
  pub can_be : AllCanBe charge slots
  pub sixteen : length slots ≡ 16
  pub upward : from ≤ to
  pub within : to ≤ 16
  pub after : AfterSlots charge requests slots from now late choice
