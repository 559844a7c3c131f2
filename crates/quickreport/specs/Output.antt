-- The whole output of the program `quickplan`, byte for byte. Single spaces; each line ends with a line feed.
use Rattle.std.specs.Prelude.{ℕ, ◌≡◌, List, [], ◌∷◌, ◌++◌}
use Rattle.text.specs.Ascii.{ascii}
use Rattle.decimal.specs.Decimal.{field}
use Rattle.decimal.specs.Reader.{Item, number, word}
use Rattle.taskset.specs.Reading.{task_set_of}
use Rattle.taskset.specs.declared.TaskSet.{TaskSet}
use Rattle.taskset.specs.Table.{Table, reading_of}
use Rattle.quick.specs.Quick.{quick_for, quick_of}
use Rattle.quick.specs.declared.QuickPlan.{QuickPlan}
use Rattle.listing.specs.Lines.{table_lines}
use Rattle.listing.specs.Printed.{printed, Printed}
use Rattle.listing.specs.ReadBack.{OutputRead}

-- last line: the rejected demand (the paper's left-out weight)
unfoldable pub quick_summary : QuickPlan → List ℕ
quick_summary plan = ascii "quick" ++ field plan.rejected ++ ascii "\n"

-- the lines of a quick plan
unfoldable pub quick_lines : TaskSet → QuickPlan → List ℕ
quick_lines t plan = table_lines t plan.placement ++ quick_summary plan

-- the output for a table: its quick plan
unfoldable pub quick_output_of : Table → List ℕ
quick_output_of t = printed (quick_of t).outcome (quick_lines (reading_of t).tasks (quick_of t))

-- A valid table's output is its sizes, its tasks and its quick plan; a refused one's is its refusal alone.
abbrev pub Reported : Table → List ℕ → Type 0
Reported t output = Printed t (quick_lines (task_set_of t.fields) (quick_for t.fields)) output

-- the word `quick`, letter by letter
abbrev pub quick_word : Item
quick_word = word (113 ∷ 117 ∷ 105 ∷ 99 ∷ 107 ∷ [])

-- Read back by the codes of its bytes, a valid table's output is n, m and H, six numbers a task with the quick plan's core, then `quick` and
-- the rejected demand of the quick plan; a refused one's is number and place.
abbrev pub QuickReadBack : Table → List ℕ → Type 0
QuickReadBack t output =
    OutputRead t (quick_for t.fields).placement (λ line. line ≡ quick_word ∷ number (quick_for t.fields).rejected ∷ []) output
