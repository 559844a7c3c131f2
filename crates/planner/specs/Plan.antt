-- The exact planner's answer.
use Rattle.std.specs.Prelude.{ℕ, zero, suc, Bool, true, false, replicate, Ok, Err}
use Rattle.numbers.specs.Rows.{row, entry}
use Rattle.refusal.specs.Tests.{by_outcome}
use Rattle.refusal.specs.declared.Cause.{Cause}
use Rattle.refusal.specs.Outcome.{Outcome}
use Rattle.fields.specs.declared.Fields.{Fields}
use Rattle.taskset.specs.Table.{Table}
use Rattle.planning.specs.Problem.{table_problem, order_of}
use Rattle.allocation.specs.Walk.{WalkAnswer}
use Rattle.allocation.specs.TableOrder.{table_answer}
use Rattle.planner.specs.declared.Allocation.{Allocation}
use Rattle.planner.specs.declared.Verdict.{Verdict}
use Rattle.planner.specs.declared.Verdict.TheVariants.{All, Short, Spent, Refused}

-- spent if the complete walk has more steps than the limit; else all if nothing is rejected, and short if something is
unfoldable pub verdict_of : Bool → ℕ → Verdict
verdict_of true rejected = Spent
verdict_of false zero = All
verdict_of false (suc rejected) = Short

-- the walk's answer for a table of n tasks, with the verdict; entries beyond n are 0
unfoldable pub allocation_of : ℕ → WalkAnswer → Allocation
allocation_of n a = record {
  verdict = verdict_of a.spent a.rejected;
  placement = row 0 n (entry a.placement);
  rejected = a.rejected;
  steps = a.steps;
}

-- the plan of fields within the limits
unfoldable pub plan_for : Fields → ℕ → Allocation
plan_for f limit = allocation_of f.n (table_answer (table_problem f) (order_of f) limit)

-- a refused plan: zeros beside the cause
unfoldable pub refused_plan : Cause → Allocation
refused_plan cause = record { verdict = Refused cause; placement = replicate 16 0; rejected = 0; steps = 0 }

-- the answer within a step limit by the outcome of a table's tests and by its fields
unfoldable pub plan_by : ℕ → Outcome → Fields → Allocation
plan_by limit = by_outcome refused_plan (λ f. plan_for f limit)

-- the answer for a table and a step limit
unfoldable pub plan_of : Table → ℕ → Allocation
plan_of t limit = plan_by limit t.outcome t.fields

-- what a verdict says of the call: through it a verdict has the paper's number and place
unfoldable pub verdict_outcome : Verdict → Outcome
verdict_outcome All = Ok tt
verdict_outcome Short = Ok tt
verdict_outcome Spent = Ok tt
verdict_outcome (Refused cause) = Err cause
