-- The limits of fields and their refusals, as plain statements.
use Rattle.std.specs.Prelude.{ℕ, ◌+◌, ◌≤◌, ◌<◌, ◌≡◌, List, [], ◌∷◌, ◌++◌, ◌≢◌}
use Rattle.numbers.specs.Bounds.{Outside}
use Rattle.numbers.specs.Multiples.{IsLcm}
use Rattle.affinity.specs.Permitted.{Unfit, CoreByte}
use Rattle.refusal.specs.Conditions.{Condition, only, at}
use Rattle.fields.specs.Fields.{period_at, budget_at, affinity_at}
use Rattle.fields.specs.Hyperperiod.{hyperperiod_of}
use Rattle.fields.specs.declared.Fields.{Fields}

-- The numbers of tasks and cores within their limits.
pub record Sized (f : Fields) : Type 0 where
  pub tasks : (1 ≤ f.n) × (f.n ≤ 16)
  pub cores : (1 ≤ f.m) × (f.m ≤ 4)

-- Fields within the paper's limits.
pub record Within (f : Fields) : Type 0 where
  pub sizes : Sized f
  pub charge : f.charge ≤ 9
  pub periods : (k : ℕ) → k < f.n → (1 ≤ period_at f k) × (period_at f k ≤ 10000)
  pub budgets : (k : ℕ) → k < f.n → (1 ≤ budget_at f k) × (budget_at f k ≤ period_at f k)
  pub costs : (k : ℕ) → k < f.n → budget_at f k + f.charge ≤ period_at f k
  pub counted : f.given ≡ f.n
  pub affinities : (k : ℕ) → k < f.n → CoreByte f.m (affinity_at f k)
  pub multiple : hyperperiod_of f ≤ 1000000

-- The least common multiple of the periods up to the task at k is above 1,000,000.
abbrev pub Exceeds : Fields → ℕ → Type 0
Exceeds f k = (h : ℕ) × IsLcm (period_at f) (k + 1) h × (1000000 < h)

-- The refusals of the sizes: numbers 2 and 3.
abbrev pub sizes : Fields → List Condition
sizes f = only 2 (Outside 1 16 f.n) ∷ only 3 (Outside 1 4 f.m) ∷ []

-- The refusals of the limits, each by its number: 5, 6 and 7 look at the table alone, 13 and 14 at the charge beside it,
-- 15 at the core bytes beside it: at their number, and at each.
abbrev pub charge_above : Fields → Condition
charge_above f = only 13 (9 < f.charge)

abbrev pub period_outside : Fields → Condition
period_outside f = at 5 (λ k. Outside 1 10000 (period_at f k)) f.n

abbrev pub budget_outside : Fields → Condition
budget_outside f = at 6 (λ k. Outside 1 (period_at f k) (budget_at f k)) f.n

abbrev pub cost_above : Fields → Condition
cost_above f = at 14 (λ k. period_at f k < budget_at f k + f.charge) f.n

abbrev pub row_other : Fields → Condition
row_other f = only 15 (f.given ≢ f.n)

abbrev pub affinity_unfit : Fields → Condition
affinity_unfit f = at 15 (λ k. Unfit (affinity_at f k) f.m) f.n

abbrev pub multiple_above : Fields → Condition
multiple_above f = at 7 (Exceeds f) f.n

-- They are tested in this order, each over all tasks before the next.
abbrev pub limits : Fields → List Condition
limits f = charge_above f ∷ period_outside f ∷ budget_outside f ∷ cost_above f ∷ row_other f ∷ affinity_unfit f ∷ multiple_above f ∷ []

-- The refusals of fields, in the order of their tests.
abbrev pub field_conditions : Fields → List Condition
field_conditions f = sizes f ++ limits f
