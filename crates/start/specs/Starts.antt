-- What a fresh core is: the record that it starts from, by the tests of its table and of its placing.
use Rattle.std.specs.Prelude.{ℕ, List, [], replicate, Ok, Err}
use Rattle.refusal.specs.Tests.{◌then◌, by_outcome}
use Rattle.refusal.specs.declared.Cause.{Cause}
use Rattle.refusal.specs.Outcome.{Outcome}
use Rattle.fields.specs.Most.{most_tasks}
use Rattle.fields.specs.declared.Fields.{Fields}
use Rattle.taskset.specs.Table.{Table}
use Rattle.edf.specs.Slots.{empty_slot}
use Rattle.edf.specs.Fresh.{Tasks, fresh_slots}
use Rattle.placing.specs.Tests.{placing_outcome}
use Rattle.start.specs.declared.Started.{Started}

-- a table's tasks under a placement, with the charge beside it, each first released at tick 0
abbrev pub placed_tasks : Fields → List ℕ → Tasks
placed_tasks f placement = record { n = f.n; periods = f.periods; budgets = f.budgets; placement = placement; charge = f.charge; first_releases = [] }

-- the answer where the call is refused: a record of zeros beside the cause
unfoldable pub refused_start : Cause → Started
refused_start cause = record { outcome = Err cause; core = record { slots = replicate most_tasks empty_slot; charge = 0 } }

-- the answer for fields, a placement and a core number that are accepted: the record carries the charge, that of an empty core too
unfoldable pub start_for : List ℕ → ℕ → Fields → Started
start_for placement core f = record { outcome = Ok tt; core = record { slots = fresh_slots (placed_tasks f placement) core; charge = f.charge } }

-- the answer by the outcome of the tests and by the fields
unfoldable pub start_by : List ℕ → ℕ → Outcome → Fields → Started
start_by placement core = by_outcome refused_start (start_for placement core)

-- the answer for a table, a placement and a core number: the table's tests come first
unfoldable pub start_of : Table → List ℕ → ℕ → Started
start_of t placement core = start_by placement core (t.outcome then placing_outcome t.fields placement core) t.fields
