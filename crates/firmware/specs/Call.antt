-- What the firmware entry returns and what it leaves in the plan buffer. Its table is in the new form.
use Rattle.std.specs.Prelude.{ℕ, ◌+◌, List, ◌++◌, take, drop}
use Rattle.refusal.specs.Causes.{number_of}
use Rattle.refusal.specs.Tests.{by_outcome}
use Rattle.refusal.specs.declared.Cause.TheVariants.{Buffer}
use Rattle.taskset.specs.Table.{Table, lent}
use Rattle.newform.specs.Limits.{new}
use Rattle.planner.specs.Plan.{plan_for, plan_of}
use Rattle.planner.specs.declared.Verdict.{Verdict}
use Rattle.planner.specs.declared.Verdict.TheVariants.{All, Short, Spent, Refused}

-- a table and a lent plan buffer: the table's numbers, then 8, a buffer shorter than n
abbrev pub with_buffer : Table → ℕ → Table
with_buffer t room = lent Buffer 8 t t.fields.n room

-- what the entry is given: a table in the new form and a buffer of this length
abbrev pub called : List ℕ → ℕ → Table
called s room = with_buffer (new s) room

-- the number that the firmware is given: 0 all, 1 short, 2 spent, or 100 plus the refusal number
abbrev pub code_of : Verdict → ℕ
code_of All = 0
code_of Short = 1
code_of Spent = 2
code_of (Refused cause) = 100 + number_of cause

-- what the entry returns within a step limit
unfoldable pub code_for : Table → ℕ → ℕ
code_for t limit = code_of (plan_of t limit).verdict

-- every byte of the buffer at exit: as it was, or with the first n core numbers in front
unfoldable pub buffer_after : Table → ℕ → List ℕ → List ℕ
buffer_after t limit buffer = by_outcome (λ cause. buffer) (λ f. take f.n (plan_for f limit).placement ++ drop f.n buffer) t.outcome t.fields
