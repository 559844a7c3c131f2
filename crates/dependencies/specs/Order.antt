-- What the check of a dependency list answers.
use Rattle.std.specs.Prelude.{ℕ, List, replicate, Ok, Err}
use Rattle.numbers.specs.Rows.{padded}
use Rattle.refusal.specs.Tests.{◌then◌, in_order, by_outcome}
use Rattle.refusal.specs.declared.Cause.{Cause}
use Rattle.refusal.specs.Outcome.{Outcome}
use Rattle.fields.specs.Most.{most_tasks}
use Rattle.fields.specs.declared.Fields.{Fields}
use Rattle.taskset.specs.Table.{Table}
use Rattle.precedence.specs.Sequence.{ordered}
use Rattle.pairs.specs.Pairs.{feeds}
use Rattle.feeding.specs.Tests.{list_tests}
use Rattle.dependencies.specs.declared.TaskOrder.{TaskOrder}

-- the answer where the call is refused: sixteen zeros beside the cause
unfoldable pub refused_order : Cause → TaskOrder
refused_order cause = record { outcome = Err cause; order = replicate most_tasks 0 }

-- the answer where it is accepted: all tasks, each after those that feed it, the lowest ready number first, then zeros
unfoldable pub order_for : List ℕ → Fields → TaskOrder
order_for list f = record { outcome = Ok tt; order = padded (ordered (feeds list) f.n f.n) }

-- the answer by the outcome of the tests and by the fields
unfoldable pub order_by : List ℕ → Outcome → Fields → TaskOrder
order_by list = by_outcome refused_order (order_for list)

-- the answer for a table and a list: the table's tests come first
unfoldable pub order_of : Table → List ℕ → TaskOrder
order_of t list = order_by list (t.outcome then in_order (list_tests t.fields list)) t.fields
