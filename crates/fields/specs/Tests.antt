-- The tests of fields: numbers 2 and 3 of the sizes; number 13, then 5, 6, 14, 15 and 7 of the limits.
use Rattle.std.specs.Prelude.{ℕ, ◌+◌, List, [], ◌∷◌, ◌++◌, Bool, not, ltb, eqb}
use Rattle.numbers.specs.Bounds.{outside}
use Rattle.numbers.specs.First.{first}
use Rattle.affinity.specs.Permitted.{unfit}
use Rattle.refusal.specs.Tests.{refuse_if, refuse_at, in_order}
use Rattle.refusal.specs.declared.Cause.TheVariants.{TaskCount, CoreCount, Period, Budget, Hyperperiod, Charge, Cost, Affinity}
use Rattle.refusal.specs.Outcome.{Outcome}
use Rattle.fields.specs.Most.{most_tasks, most_cores, most_charge, longest_period, most_multiple}
use Rattle.fields.specs.Fields.{period_at, budget_at, cost_at, affinity_at}
use Rattle.fields.specs.Hyperperiod.{multiple_to}
use Rattle.fields.specs.declared.Fields.{Fields}

-- number 2: n is 0 or above 16
abbrev pub tasks_test : Fields → Outcome
tasks_test f = refuse_if (outside 1 most_tasks f.n) TaskCount

-- number 3: m is 0 or above 4
abbrev pub cores_test : Fields → Outcome
cores_test f = refuse_if (outside 1 most_cores f.m) CoreCount

-- number 13: the charge is above 9
abbrev pub charge_test : Fields → Outcome
charge_test f = refuse_if (ltb most_charge f.charge) Charge

-- number 5: a period outside 1 to 10,000
unfoldable pub bad_period : Fields → ℕ → Bool
bad_period f k = outside 1 longest_period (period_at f k)

abbrev pub periods_test : Fields → Outcome
periods_test f = refuse_at (first (bad_period f) f.n) Period

-- number 6: a budget of 0 or above its period
unfoldable pub bad_budget : Fields → ℕ → Bool
bad_budget f k = outside 1 (period_at f k) (budget_at f k)

abbrev pub budgets_test : Fields → Outcome
budgets_test f = refuse_at (first (bad_budget f) f.n) Budget

-- number 14: a budget plus the charge above its period
unfoldable pub bad_cost : Fields → ℕ → Bool
bad_cost f k = ltb (period_at f k) (cost_at f k)

abbrev pub costs_test : Fields → Outcome
costs_test f = refuse_at (first (bad_cost f) f.n) Cost

-- number 15: the row of core bytes has another length than n,
abbrev pub row_test : Fields → Outcome
row_test f = refuse_if (not (eqb f.given f.n)) (Affinity 0)

-- or a byte is 0 or has a bit above core m
unfoldable pub bad_affinity : Fields → ℕ → Bool
bad_affinity f k = unfit (affinity_at f k) f.m

abbrev pub affinity_test : Fields → Outcome
affinity_test f = refuse_at (first (bad_affinity f) f.n) Affinity

-- number 7: with this task's period the least common multiple exceeds 1,000,000
unfoldable pub exceeds : Fields → ℕ → Bool
exceeds f k = ltb most_multiple (multiple_to f (k + 1))

abbrev pub hyperperiod_test : Fields → Outcome
hyperperiod_test f = refuse_at (first (exceeds f) f.n) Hyperperiod

-- the sizes: numbers 2 and 3
abbrev pub size_tests : Fields → List Outcome
size_tests f = tasks_test f ∷ cores_test f ∷ []

-- the limits: number 13, then 5, 6, 14, 15 and 7, each over all tasks before the next
abbrev pub limit_tests : Fields → List Outcome
limit_tests f = charge_test f ∷ periods_test f ∷ budgets_test f ∷ costs_test f ∷ row_test f ∷ affinity_test f ∷ hyperperiod_test f ∷ []

-- the sizes, then the limits
unfoldable pub fields_outcome : Fields → Outcome
fields_outcome f = in_order (size_tests f ++ limit_tests f)
