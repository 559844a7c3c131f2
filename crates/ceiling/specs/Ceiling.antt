-- The step ceiling's answer.
use Rattle.std.specs.Prelude.{ℕ, List, Ok, Err}
use Rattle.numbers.specs.Reorder.{gather}
use Rattle.numbers.specs.Rows.{tab}
use Rattle.refusal.specs.Tests.{by_outcome}
use Rattle.refusal.specs.declared.Cause.{Cause}
use Rattle.refusal.specs.Outcome.{Outcome}
use Rattle.fields.specs.Fields.{affinity_at}
use Rattle.fields.specs.declared.Fields.{Fields}
use Rattle.taskset.specs.Table.{Table}
use Rattle.planning.specs.Problem.{order_of}
use Rattle.products.specs.Products.{some_tied, factor_for, sum_of_products}
use Rattle.ceiling.specs.declared.StepCeiling.{StepCeiling}

-- the core bytes of the tasks in planning order
abbrev pub planned_bytes : Fields → List ℕ
planned_bytes f = gather (order_of f) (tab f.n (affinity_at f))

-- the step ceiling of fields within the limits
unfoldable pub step_ceiling : Fields → ℕ
step_ceiling f = sum_of_products (factor_for (some_tied (planned_bytes f) f.n f.m) (planned_bytes f) f.m) f.n

-- the answer for fields within the limits
unfoldable pub ceiling_for : Fields → StepCeiling
ceiling_for f = record { outcome = Ok tt; ceiling = step_ceiling f }

-- a refused table has ceiling 0
unfoldable pub refused_ceiling : Cause → StepCeiling
refused_ceiling cause = record { outcome = Err cause; ceiling = 0 }

-- the answer by the outcome of a table's tests and by its fields
unfoldable pub ceiling_by : Outcome → Fields → StepCeiling
ceiling_by = by_outcome refused_ceiling ceiling_for

-- the answer for a table
unfoldable pub ceiling_of : Table → StepCeiling
ceiling_of t = ceiling_by t.outcome t.fields
