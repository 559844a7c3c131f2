-- The output in the table's terms.
use Rattle.std.specs.Prelude.{ℕ, ◌≡◌, List, [], ◌∷◌}
use Rattle.decimal.specs.Reader.{Item, number, word}
use Rattle.refusal.specs.declared.Cause.{Cause}
use Rattle.taskset.specs.Reading.{task_set_of}
use Rattle.taskset.specs.Table.{Table}
use Rattle.planner.specs.Plan.{plan_for}
use Rattle.planner.specs.declared.Allocation.{Allocation}
use Rattle.listing.specs.Printed.{Printed}
use Rattle.listing.specs.ReadBack.{OutputRead}
use Rattle.report.specs.Output.{plan_lines}
use Rattle.report.specs.VerdictTable.{VerdictRow, verdict, verdict_table}

-- A valid table's output is its sizes, its tasks and its plan within 1,000,000 steps; a refused one's is its refusal alone.
abbrev pub Reported : Table → List ℕ → Type 0
Reported t output = Printed t (plan_lines (task_set_of t.fields) (plan_for t.fields 1000000)) output

-- A last line of this plan: the word of its verdict, by the rows of the table, the rejected demand and the steps.
abbrev pub LastBy : List VerdictRow → Allocation → List Item → Type 0
LastBy [] plan line = Unit {0}
LastBy (verdict v said letters ∷ rows) plan line =
    (plan.verdict ≡ v → line ≡ word letters ∷ number plan.rejected ∷ number plan.steps ∷ []) × LastBy rows plan line

abbrev pub PlanLast : Allocation → List Item → Type 0
PlanLast plan line = (cause : Cause) → LastBy (verdict_table cause) plan line

-- Read back by the codes of its bytes, a valid table's output is n, m and H, six numbers a task with the plan's core, then verdict, rejected
-- demand and steps of the plan; a refused one's is number and place.
abbrev pub PlanReadBack : Table → List ℕ → Type 0
PlanReadBack t output = OutputRead t (plan_for t.fields 1000000).placement (PlanLast (plan_for t.fields 1000000)) output
