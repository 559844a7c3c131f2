-- The stored table: the sizes first, then two parallel arrays.
use Rattle.std.specs.Prelude.{ℕ, ◌+◌, ◌*◌, ◌≤◌, ◌<◌, ◌≡◌, List, ◌∷◌, ◌++◌, length, get_or, take, replicate}
use Rattle.numbers.specs.Rows.{row, entry, padded}
use Rattle.wire.specs.Bytes.{le32, bytes_of_all, Words}
use Rattle.affinity.specs.Permitted.{every_core}
use Rattle.fields.specs.Fields.{period_at, budget_at, affinity_at}
use Rattle.fields.specs.declared.Fields.{Fields}
use Rattle.form.specs.Layout.{fields_at}

-- byte 0: the number of tasks, n
abbrev pub task_count : List ℕ → ℕ
task_count s = get_or s 0 0

-- byte 1: the number of cores, m
abbrev pub core_count : List ℕ → ℕ
core_count s = get_or s 1 0

-- the length of a table of n tasks
abbrev pub old_length : ℕ → ℕ
old_length n = 2 + 8 * n

-- the sizes, then n periods and n budgets; beside the table the charge, and sixteen core bytes with how many were given
abbrev pub old_fields : List ℕ → ℕ → List ℕ → ℕ → Fields
old_fields s charge affinity given = fields_at s 0 2 charge affinity given

-- the fields of a table, the charge beside it, and a row of core bytes, of which the first n are used
unfoldable pub beside_fields : List ℕ → ℕ → List ℕ → Fields
beside_fields s charge affinity = old_fields s charge (row 0 (task_count s) (entry affinity)) (length affinity)

-- the row that permits every core of the table to each task
unfoldable pub every_affinity : List ℕ → List ℕ
every_affinity s = replicate (task_count s) (every_core (core_count s))

-- the fields of a table that is read by itself: the charge is 0, and each task may use every core
abbrev pub alone_fields : List ℕ → Fields
alone_fields s = beside_fields s 0 (every_affinity s)

-- the bytes of a table of n tasks and m cores
abbrev pub old_with : ℕ → ℕ → List ℕ → List ℕ → List ℕ
old_with n m periods budgets = n ∷ m ∷ (bytes_of_all periods ++ bytes_of_all budgets)

-- the same for as many tasks as there are periods
abbrev pub old_table : ℕ → List ℕ → List ℕ → List ℕ
old_table m periods budgets = old_with (length periods) m periods budgets

-- the bytes of fields in this form, which has no place for charge and core bytes
unfoldable pub old_bytes : Fields → List ℕ
old_bytes f = old_with f.n f.m (take f.n f.periods) (take f.n f.budgets)

-- A list that begins with these fields in the old form: each stands where the paper has it.
pub record OldForm (f : Fields) (s : List ℕ) : Type 0 where
  pub tasks : get_or s 0 0 ≡ f.n
  pub cores : get_or s 1 0 ≡ f.m
  pub periods : (k : ℕ) → k < f.n → le32 s (2 + 4 * k) ≡ period_at f k
  pub budgets : (k : ℕ) → k < f.n → le32 s (2 + 4 * f.n + 4 * k) ≡ budget_at f k

-- These fields in the old form, with this charge and these core bytes beside them.
pub record FormBeside (charge : ℕ) (affinity : List ℕ) (f : Fields) (s : List ℕ) : Type 0 where
  pub form : OldForm f s
  pub charged : f.charge ≡ charge
  pub bytes : (k : ℕ) → k < f.n → affinity_at f k ≡ entry affinity k

-- The fields of a table made of sizes, periods and budgets, with a charge and core bytes beside it, are these, with zeros up to sixteen.
abbrev pub FieldsReadBack : Type 0
FieldsReadBack = (m charge : ℕ) (periods budgets affinity : List ℕ)
    → length periods ≤ 16 → length budgets ≡ length periods → length affinity ≤ length periods → Words periods → Words budgets
    → ◌≡◌ {A = Fields} (beside_fields (old_table m periods budgets) charge affinity) (record { n = length periods; m = m; charge = charge; periods = padded periods; budgets = padded budgets; affinity = padded affinity; given = length affinity })
