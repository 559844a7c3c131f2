-- The new stored form: a byte 0, the sizes and the charge, then three parallel arrays.
use Rattle.std.specs.Prelude.{ℕ, ◌+◌, ◌*◌, ◌<◌, ◌≡◌, List, ◌∷◌, ◌++◌, length, get_or, take}
use Rattle.numbers.specs.Rows.{row}
use Rattle.wire.specs.Bytes.{le32, byte_at, bytes_of_all}
use Rattle.fields.specs.Fields.{period_at, budget_at, affinity_at}
use Rattle.fields.specs.declared.Fields.{Fields}
use Rattle.form.specs.Layout.{fields_at}

-- byte 0: always 0, which is no number of tasks, so that no table of the old form is one of the new
abbrev pub first_byte : List ℕ → ℕ
first_byte s = get_or s 0 0

-- byte 1: the number of tasks, n; byte 2: the number of cores, m
abbrev pub task_count : List ℕ → ℕ
task_count s = get_or s 1 0

-- byte 3: the board's charge (the field's switch cost)
abbrev pub charge_byte : List ℕ → ℕ
charge_byte s = get_or s 3 0

-- the length of a table of n tasks
abbrev pub new_length : ℕ → ℕ
new_length n = 4 + 9 * n

-- the sizes and the charge, then n periods, n budgets (the paper's times) and n core bytes in the same task order; bytes past the end
-- count as 0, and entries beyond n are 0
unfoldable pub new_fields : List ℕ → Fields
new_fields s = fields_at s 1 4 (charge_byte s) (row 0 (task_count s) (byte_at s (4 + 8 * task_count s))) (task_count s)

-- the bytes of a table of n tasks and m cores
abbrev pub new_with : ℕ → ℕ → ℕ → List ℕ → List ℕ → List ℕ → List ℕ
new_with n m charge periods budgets affinity = 0 ∷ n ∷ m ∷ charge ∷ (bytes_of_all periods ++ (bytes_of_all budgets ++ affinity))

-- the same for as many tasks as there are periods
abbrev pub new_table : ℕ → ℕ → List ℕ → List ℕ → List ℕ → List ℕ
new_table m charge periods budgets affinity = new_with (length periods) m charge periods budgets affinity

-- the bytes of fields in this form
unfoldable pub new_bytes : Fields → List ℕ
new_bytes f = new_with f.n f.m f.charge (take f.n f.periods) (take f.n f.budgets) (take f.n f.affinity)

-- A list that begins with these fields in the new form: each stands where the paper has it.
pub record NewForm (f : Fields) (s : List ℕ) : Type 0 where
  pub first : get_or s 0 0 ≡ 0
  pub tasks : get_or s 1 0 ≡ f.n
  pub cores : get_or s 2 0 ≡ f.m
  pub charge : get_or s 3 0 ≡ f.charge
  pub periods : (k : ℕ) → k < f.n → le32 s (4 + 4 * k) ≡ period_at f k
  pub budgets : (k : ℕ) → k < f.n → le32 s (4 + 4 * f.n + 4 * k) ≡ budget_at f k
  pub affinity : (k : ℕ) → k < f.n → get_or s (4 + 8 * f.n + k) 0 ≡ affinity_at f k
