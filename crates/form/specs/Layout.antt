-- Where a stored form has the fields of a table, and what is promised of their reading.
use Rattle.std.specs.Prelude.{ℕ, ◌+◌, ◌*◌, ◌≤◌, ◌<◌, ◌≡◌, List, get_or, Ok}
use Rattle.numbers.specs.Rows.{row}
use Rattle.wire.specs.Bytes.{le32, word_at}
use Rattle.fields.specs.Fields.{period_at, budget_at, affinity_at}
use Rattle.fields.specs.declared.Fields.{Fields}
use Rattle.taskset.specs.declared.Reading.{Reading}

-- the fields of a table with n at one byte and m at the next, then behind the leading bytes n periods and n budgets (the paper's times) in the
-- same layout and task order; with a charge, and sixteen core bytes of which so many were given. Bytes past the end count as 0, and entries
-- beyond n are 0
abbrev pub fields_at : List ℕ → ℕ → ℕ → ℕ → List ℕ → ℕ → Fields
fields_at s at lead charge affinity given = record {
  n = get_or s at 0;
  m = get_or s (at + 1) 0;
  charge = charge;
  periods = row 0 (get_or s at 0) (word_at s lead);
  budgets = row 0 (get_or s at 0) (word_at s (lead + 4 * get_or s at 0));
  affinity = affinity;
  given = given;
}

-- What stands where: n at one byte and m at the next, the periods and then the budgets behind the leading bytes.
pub record StandsAt (at lead : ℕ) (f : Fields) (s : List ℕ) : Type 0 where
  pub tasks : get_or s at 0 ≡ f.n
  pub cores : get_or s (at + 1) 0 ≡ f.m
  pub periods : (k : ℕ) → k < f.n → le32 s (lead + 4 * k) ≡ period_at f k
  pub budgets : (k : ℕ) → k < f.n → le32 s (lead + 4 * f.n + 4 * k) ≡ budget_at f k

-- Rows whose entries beyond n are 0.
pub record Bounded (f : Fields) : Type 0 where
  pub periods : (k : ℕ) → f.n ≤ k → period_at f k ≡ 0
  pub budgets : (k : ℕ) → f.n ≤ k → budget_at f k ≡ 0
  pub affinity : (k : ℕ) → f.n ≤ k → affinity_at f k ≡ 0

-- What is promised of an accepted reading of these bytes: they are its fields in this form, and its entries beyond n are 0.
pub record ReadsIn (Form : Fields → List ℕ → Type 0) (s : List ℕ) (r : Reading) : Type 0 where
  pub form : r.outcome ≡ Ok tt → Form r.tasks.fields s
  pub beyond : r.outcome ≡ Ok tt → Bounded r.tasks.fields
