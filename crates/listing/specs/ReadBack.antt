-- What is read back from an output, line by line, in the table's terms: plain numbers, and words letter by letter.
use Rattle.std.specs.Prelude.{ℕ, ◌+◌, ◌≤◌, ◌<◌, ◌≡◌, cond, List, [], ◌∷◌, length, get_or}
use Rattle.numbers.specs.Rows.{entry}
use Rattle.numbers.specs.Sums.{sum_from_one}
use Rattle.decimal.specs.Reader.{Item, number, word, read_text, nothing}
use Rattle.affinity.specs.Permitted.{permitted, IsLowest}
use Rattle.refusal.specs.Conditions.{First}
use Rattle.fields.specs.Fields.{period_at, budget_at, affinity_at}
use Rattle.fields.specs.Hyperperiod.{hyperperiod_of}
use Rattle.fields.specs.declared.Fields.{Fields}
use Rattle.taskset.specs.Table.{Table}

-- the words `table` and `refused`
abbrev pub table_word : Item
table_word = word (116 ∷ 97 ∷ 98 ∷ 108 ∷ 101 ∷ [])

abbrev pub refused_word : Item
refused_word = word (114 ∷ 101 ∷ 102 ∷ 117 ∷ 115 ∷ 101 ∷ 100 ∷ [])

-- line k of a text, counted from 0
abbrev pub line_at : List ℕ → ℕ → List Item
line_at text k = get_or (read_text text) k []

-- how many of the table's cores the task at k permits
abbrev pub permitted_by : Fields → ℕ → ℕ
permitted_by f k = sum_from_one (λ core. cond (permitted (affinity_at f k) core) 1 0) f.m

-- The line of the task at k: its number, period, budget (the paper's time) and core, how many cores it permits, and the lowest of them.
abbrev pub TaskRead : Fields → List ℕ → ℕ → List Item → Type 0
TaskRead f cores k line =
    (lowest : ℕ)
    × IsLowest (affinity_at f k) lowest
    × (line
    ≡ number (k + 1) ∷ number (period_at f k) ∷ number (budget_at f k) ∷ number (entry cores k) ∷ number (permitted_by f k) ∷ number lowest ∷ [])

-- A text of the table with these cores: the first line with n, m and H, a line for each task, a last line, and nothing after its line feed.
pub record TableRead (f : Fields) (cores : List ℕ) (Last : List Item → Type 0) (text : List ℕ) : Type 0 where
  pub first : line_at text 0 ≡ table_word ∷ number f.n ∷ number f.m ∷ number (hyperperiod_of f) ∷ []
  pub task : (k : ℕ) → k < f.n → TaskRead f cores k (line_at text (k + 1))
  pub last : Last (line_at text (f.n + 1))
  pub end : line_at text (f.n + 2) ≡ nothing
  pub whole : length (read_text text) ≡ f.n + 3

-- A text of one line: `refused`, number and place.
abbrev pub RefusalRead : ℕ → ℕ → List ℕ → Type 0
RefusalRead value place text = read_text text ≡ (refused_word ∷ number value ∷ number place ∷ []) ∷ nothing ∷ []

-- The output read back: of a valid table, the table with these cores and a last line of which `Last` holds; of a refused one, number and
-- place of the first condition that holds.
pub record OutputRead (t : Table) (cores : List ℕ) (Last : List Item → Type 0) (output : List ℕ) : Type 0 where
  pub planned : t.Valid → TableRead t.fields cores Last output
  pub refused : (value place : ℕ) → 1 ≤ value → First t.conditions value place → RefusalRead value place output
