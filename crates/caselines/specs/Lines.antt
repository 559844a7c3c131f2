-- The lines of the cases, byte for byte: number and place of the refusal (0 0 if none), then the values, single spaces, a line feed.
use Rattle.std.specs.Prelude.{ℕ, ◌+◌, List, ◌++◌, take}
use Rattle.numbers.specs.Rows.{row, entry}
use Rattle.text.specs.Ascii.{ascii}
use Rattle.decimal.specs.Decimal.{decimal, field}
use Rattle.decimal.specs.Joined.{joined, fields}
use Rattle.refusal.specs.Causes.{number_in, place_in}
use Rattle.refusal.specs.Outcome.{Outcome}
use Rattle.fields.specs.declared.Fields.{Fields}
use Rattle.taskset.specs.declared.TaskSet.{TaskSet}
use Rattle.taskset.specs.declared.Reading.{Reading}
use Rattle.ordering.specs.Order.{planning_order}
use Rattle.planner.specs.Plan.{verdict_outcome}
use Rattle.planner.specs.declared.Allocation.{Allocation}
use Rattle.planner.specs.declared.Verdict.{Verdict}
use Rattle.planner.specs.declared.Verdict.TheVariants.{All, Short, Spent, Refused}
use Rattle.quick.specs.declared.QuickPlan.{QuickPlan}
use Rattle.ceiling.specs.declared.StepCeiling.{StepCeiling}
use Rattle.edf.specs.declared.Slot.{Slot}
use Rattle.storing.specs.declared.Transfer.{Transfer}
use Rattle.dependencies.specs.declared.TaskOrder.{TaskOrder}
use Rattle.start.specs.declared.Started.{Started}
use Rattle.runner.specs.declared.Core.{Core}
use Rattle.runner.specs.declared.Ticked.{Ticked}

-- number and place
unfoldable pub outcome_fields : Outcome → List ℕ
outcome_fields o = decimal (number_in o) ++ field (place_in o)

-- a slot: period, budget, ticks until release, ticks owed
unfoldable pub slot_fields : Slot → List ℕ
slot_fields s = field s.period ++ field s.budget ++ field s.until ++ field s.remaining

-- a core record: its charge and its sixteen slots
unfoldable pub record_fields : Core → List ℕ
record_fields c = field c.charge ++ joined slot_fields c.slots

-- n, m and the hyperperiod
unfoldable pub size_fields : TaskSet → List ℕ
size_fields t = field t.fields.n ++ field t.fields.m ++ field t.hyperperiod

-- the first n tasks of an order by their numbers, from 1; zeros beyond n
unfoldable pub task_numbers : List ℕ → ℕ → List ℕ
task_numbers order n = row 0 n (λ k. entry order k + 1)

-- periods, budgets, demands and planning order
unfoldable pub task_fields : TaskSet → List ℕ
task_fields t = fields t.fields.periods ++ fields t.fields.budgets ++ fields t.demands ++ fields (task_numbers (planning_order t) t.fields.n)

-- code 1: a reading
unfoldable pub table_line : Reading → List ℕ
table_line r = outcome_fields r.outcome ++ size_fields r.tasks ++ task_fields r.tasks ++ ascii "\n"

-- the number of a verdict
abbrev pub verdict_number : Verdict → ℕ
verdict_number All = 0
verdict_number Short = 1
verdict_number Spent = 2
verdict_number (Refused cause) = 0

-- code 2: a plan
unfoldable pub plan_line : Allocation → List ℕ
plan_line a =
    outcome_fields (verdict_outcome a.verdict) ++ field (verdict_number a.verdict) ++ field a.rejected ++ field a.steps
    ++ fields a.placement ++ ascii "\n"

-- code 3: a fresh core, and each of its ticks
unfoldable pub core_line : Started → List ℕ
core_line s = outcome_fields s.outcome ++ record_fields s.core ++ ascii "\n"

unfoldable pub tick_line : Ticked → List ℕ
tick_line t = outcome_fields t.outcome ++ field t.run ++ field t.late ++ ascii "\n"

-- code 4: one tick, with the record handed back
unfoldable pub record_line : Ticked → List ℕ
record_line t = outcome_fields t.outcome ++ field t.run ++ field t.late ++ record_fields t.core ++ ascii "\n"

-- code 5: a quick plan
unfoldable pub quick_line : QuickPlan → List ℕ
quick_line p = outcome_fields p.outcome ++ field p.rejected ++ fields p.placement ++ ascii "\n"

-- code 6: a step ceiling
unfoldable pub ceiling_line : StepCeiling → List ℕ
ceiling_line a = outcome_fields a.outcome ++ field a.ceiling ++ ascii "\n"

-- n, m, the charge and the hyperperiod
unfoldable pub board_fields : TaskSet → List ℕ
board_fields t = field t.fields.n ++ field t.fields.m ++ field t.fields.charge ++ field t.hyperperiod

-- periods, budgets and core bytes
unfoldable pub row_fields : Fields → List ℕ
row_fields f = fields f.periods ++ fields f.budgets ++ fields f.affinity

-- code 7: a reading of the new form
unfoldable pub new_line : Reading → List ℕ
new_line r = outcome_fields r.outcome ++ board_fields r.tasks ++ row_fields r.tasks.fields ++ ascii "\n"

-- codes 8 to 10: the start of the line, then every byte of the output in pieces of up to a hundred, of those that are left each time
unfoldable pub answer_start : Transfer → List ℕ
answer_start a = outcome_fields a.outcome ++ field a.length

abbrev pub piece : {A : Type 0} → (A → ℕ) → List A → List ℕ
piece f left = joined (λ x. field (f x)) (take 100 left)

-- code 11: the order of tasks that feed each other
unfoldable pub order_line : TaskOrder → List ℕ
order_line a = outcome_fields a.outcome ++ fields a.order ++ ascii "\n"
