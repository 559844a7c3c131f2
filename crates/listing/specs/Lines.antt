-- The lines that the outputs of programs share, byte for byte. Single spaces; each line ends with a line feed.
use Rattle.std.specs.Prelude.{ℕ, zero, suc, ◌+◌, List, [], ◌++◌}
use Rattle.numbers.specs.Rows.{entry}
use Rattle.text.specs.Ascii.{ascii}
use Rattle.decimal.specs.Decimal.{decimal, field}
use Rattle.affinity.specs.Permitted.{permitted_count, lowest_permitted}
use Rattle.fields.specs.Fields.{period_at, budget_at, affinity_at}
use Rattle.fields.specs.declared.Fields.{Fields}
use Rattle.taskset.specs.declared.TaskSet.{TaskSet}

-- a refusal: number and place
unfoldable pub refusal_line : ℕ → ℕ → List ℕ
refusal_line number place = ascii "refused" ++ field number ++ field place ++ ascii "\n"

-- first line: n, m and the hyperperiod (the paper's frame H)
unfoldable pub sizes_line : TaskSet → List ℕ
sizes_line t = ascii "table" ++ field t.fields.n ++ field t.fields.m ++ field t.hyperperiod ++ ascii "\n"

-- a task's line: its number, period, budget (the paper's time) and core, how many cores it permits, and the lowest of them
unfoldable pub task_line : ℕ → ℕ → ℕ → ℕ → ℕ → ℕ → List ℕ
task_line task period budget core count lowest = decimal task ++ field period ++ field budget ++ field core ++ field count ++ field lowest ++ ascii "\n"

-- the lines of the first k tasks, in table order; a core byte has eight bits, and a valid one has none above core m
unfoldable pub task_lines : Fields → List ℕ → ℕ → List ℕ
task_lines f cores zero = []
task_lines f cores (suc k) =
    task_lines f cores k
    ++ task_line (k + 1) (period_at f k) (budget_at f k) (entry cores k) (permitted_count (affinity_at f k) 8) (lowest_permitted (affinity_at f k) 8)

-- the lines of a table and the cores of its tasks
unfoldable pub table_lines : TaskSet → List ℕ → List ℕ
table_lines t cores = sizes_line t ++ task_lines t.fields cores t.fields.n
