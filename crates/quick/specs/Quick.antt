-- The quick plan's answer.
use Rattle.std.specs.Prelude.{ℕ, List, replicate, Ok, Err}
use Rattle.numbers.specs.Rows.{row, entry}
use Rattle.refusal.specs.Tests.{by_outcome}
use Rattle.refusal.specs.declared.Cause.{Cause}
use Rattle.refusal.specs.Outcome.{Outcome}
use Rattle.fields.specs.declared.Fields.{Fields}
use Rattle.taskset.specs.Table.{Table}
use Rattle.planning.specs.Problem.{table_problem, order_of}
use Rattle.allocation.specs.Placement.{rejected}
use Rattle.allocation.specs.FirstFit.{table_fit}
use Rattle.quick.specs.declared.QuickPlan.{QuickPlan}

-- the tasks in planning order, each on the lowest permitted core where it fits, or left out; in table order
unfoldable pub quick_placement : Fields → List ℕ
quick_placement f = table_fit (table_problem f) (order_of f)

-- the quick plan of fields within the limits: that placement, zeros beyond n, and its rejected demand (the paper's left-out weight)
unfoldable pub quick_for : Fields → QuickPlan
quick_for f = record {
  outcome = Ok tt;
  placement = row 0 f.n (entry (quick_placement f));
  rejected = rejected (table_problem f) (quick_placement f);
}

-- a refused quick plan: zeros beside the cause
unfoldable pub refused_quick : Cause → QuickPlan
refused_quick cause = record { outcome = Err cause; placement = replicate 16 0; rejected = 0 }

-- the answer by the outcome of a table's tests and by its fields
unfoldable pub quick_by : Outcome → Fields → QuickPlan
quick_by = by_outcome refused_quick quick_for

-- the answer for a table
unfoldable pub quick_of : Table → QuickPlan
quick_of t = quick_by t.outcome t.fields
