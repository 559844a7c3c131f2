-- What an accepted and a refused fresh core are promised.
use Rattle.std.specs.Prelude.{ℕ, ◌<◌, ◌≡◌, List, ◌≢◌, replicate, Ok}
use Rattle.numbers.specs.Rows.{entry}
use Rattle.refusal.specs.Causes.{number_in}
use Rattle.fields.specs.Fields.{period_at, budget_at}
use Rattle.taskset.specs.Table.{Table}
use Rattle.edf.specs.Slots.{slot_at}
use Rattle.edf.specs.Guarantee.{TickGuarantee}
use Rattle.runner.specs.declared.Core.{Core}
use Rattle.start.specs.declared.Started.{Started}
use Rattle.start.specs.Starts.{placed_tasks}

-- What an accepted core is promised of the record r that is handed back.
pub record Serves (t : Table) (placement : List ℕ) (core : ℕ) (r : Core) : Type 0 where
  -- It carries the charge.
  pub carries : r.charge ≡ t.fields.charge
  -- A task on the core begins with 0 ticks until its release and 0 owed;
  pub own : (k : ℕ) → k < t.fields.n → entry placement k ≡ core
      → slot_at r.slots k ≡ record { period = period_at t.fields k; budget = budget_at t.fields k; until = 0; remaining = 0 }
  -- every other slot is all zeros.
  pub others : (k : ℕ) → k < 16 → (k < t.fields.n → entry placement k ≢ core)
      → slot_at r.slots k ≡ record { period = 0; budget = 0; until = 0; remaining = 0 }
  -- Every list of ticks from it has the tick guarantee.
  pub ticks : (ticks : List (List ℕ)) → TickGuarantee (placed_tasks t.fields placement) core r.charge r.slots ticks

-- What is promised of the answer: an accepted core serves, a refused one is a record of zeros, its charge too.
pub record Starts (t : Table) (placement : List ℕ) (core : ℕ) (r : Started) : Type 0 where
  pub accepted : r.outcome ≡ Ok tt → Serves t placement core r.core
  pub refused : number_in r.outcome ≢ 0
      → r.core ≡ record { slots = replicate 16 (record { period = 0; budget = 0; until = 0; remaining = 0 }); charge = 0 }
