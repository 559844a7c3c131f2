-- The whole output of the program `millplan`, byte for byte. Single spaces; each line ends with a line feed.
use Rattle.std.specs.Prelude.{ℕ, List, ◌++◌}
use Rattle.text.specs.Ascii.{ascii}
use Rattle.decimal.specs.Decimal.{field}
use Rattle.taskset.specs.declared.Reading.{Reading}
use Rattle.taskset.specs.declared.TaskSet.{TaskSet}
use Rattle.taskset.specs.Table.{Table, reading_of}
use Rattle.planner.specs.Plan.{plan_for, plan_of, verdict_outcome}
use Rattle.planner.specs.declared.Allocation.{Allocation}
use Rattle.planner.specs.declared.Verdict.{Verdict}
use Rattle.planner.specs.declared.Verdict.TheVariants.{All, Short, Spent, Refused}
use Rattle.listing.specs.Lines.{table_lines}
use Rattle.listing.specs.Printed.{printed}

-- the word of a verdict
unfoldable pub verdict_word : Verdict → List ℕ
verdict_word All = ascii "all"
verdict_word Short = ascii "short"
verdict_word Spent = ascii "spent"
verdict_word (Refused cause) = ascii "refused"

-- last line: verdict, rejected demand (the paper's left-out weight) and steps
unfoldable pub summary_line : Allocation → List ℕ
summary_line plan = verdict_word plan.verdict ++ field plan.rejected ++ field plan.steps ++ ascii "\n"

-- the lines of a plan
unfoldable pub plan_lines : TaskSet → Allocation → List ℕ
plan_lines t plan = table_lines t plan.placement ++ summary_line plan

-- the output for a table that was read: its plan within 1,000,000 steps, or its refusal
unfoldable pub read_output : Reading → List ℕ
read_output reading = printed reading.outcome (plan_lines reading.tasks (plan_for reading.tasks.fields 1000000))

-- the output for a table: its plan within 1,000,000 steps
unfoldable pub output_of : Table → List ℕ
output_of t = printed (verdict_outcome (plan_of t 1000000).verdict) (plan_lines (reading_of t).tasks (plan_of t 1000000))
