-- The fields of a table, as its task numbers are counted from 0.
use Rattle.std.specs.Prelude.{ℕ, ◌+◌, ◌≤◌, ◌<◌, ◌≡◌, true, false}
use Rattle.numbers.specs.Rows.{row, entry}
use Rattle.affinity.specs.Permitted.{permitted}
use Rattle.fields.specs.declared.Fields.{Fields}

-- the period and the budget (the paper's time) of a task
abbrev pub period_at : Fields → ℕ → ℕ
period_at f k = entry f.periods k

abbrev pub budget_at : Fields → ℕ → ℕ
budget_at f k = entry f.budgets k

-- what a task costs its core for a period: its budget, and the charge (the field's switch cost)
abbrev pub cost_at : Fields → ℕ → ℕ
cost_at f k = budget_at f k + f.charge

-- the core byte of a task (the field's affinity)
abbrev pub affinity_at : Fields → ℕ → ℕ
affinity_at f k = entry f.affinity k

-- every task permits every core
abbrev pub Free : Fields → Type 0
Free f = (k : ℕ) → k < f.n → (core : ℕ) → 1 ≤ core → core ≤ f.m → permitted (affinity_at f k) core ≡ true

-- some task does not permit some core
abbrev pub Tied : Fields → Type 0
Tied f = (k : ℕ) × (k < f.n) × (core : ℕ) × (1 ≤ core) × (core ≤ f.m) × (permitted (affinity_at f k) core ≡ false)

-- fields as a reader has them: entries beyond n are 0, and there is a core byte for each task
unfoldable pub cut : Fields → Fields
cut f = record {
  n = f.n;
  m = f.m;
  charge = f.charge;
  periods = row 0 f.n (period_at f);
  budgets = row 0 f.n (budget_at f);
  affinity = row 0 f.n (affinity_at f);
  given = f.n;
}

-- Fields that are equal up to n: what stands beyond is not looked at, nor how many core bytes were given.
pub record Alike (f g : Fields) : Type 0 where
  pub tasks : f.n ≡ g.n
  pub cores : f.m ≡ g.m
  pub charge : f.charge ≡ g.charge
  pub periods : (k : ℕ) → k < f.n → period_at f k ≡ period_at g k
  pub budgets : (k : ℕ) → k < f.n → budget_at f k ≡ budget_at g k
  pub affinity : (k : ℕ) → k < f.n → affinity_at f k ≡ affinity_at g k
