-- What is promised of every plan of fields within the limits, in the table's terms, whichever planner made it.
use Rattle.std.specs.Prelude.{ℕ, ◌+◌, ◌*◌, ◌≤◌, ◌<◌, ◌≡◌, true, List, take}
use Rattle.numbers.specs.Multiples.{IsLcm}
use Rattle.numbers.specs.Rows.{entry}
use Rattle.numbers.specs.Sorting.{Permutation}
use Rattle.affinity.specs.Permitted.{permitted, CoreByte}
use Rattle.fields.specs.Fields.{period_at, budget_at, affinity_at}
use Rattle.fields.specs.Hyperperiod.{hyperperiod_of}
use Rattle.taskset.specs.Demands.{load_on}
use Rattle.fields.specs.declared.Fields.{Fields}
use Rattle.ordering.specs.Order.{InOrder}
use Rattle.planning.specs.Problem.{table_problem, order_of}
use Rattle.allocation.specs.Placement.{Feasible}

-- the choices of the n tasks in a row of sixteen
abbrev pub choices_of : Fields → List ℕ → List ℕ
choices_of f row = take f.n row

-- The demands and the hyperperiod that every plan goes by are exact: the hyperperiod is the least common multiple of the periods, and a
-- demand times its period is the budget plus the charge, times the hyperperiod. None is 0 or above the hyperperiod.
pub record ExactDemands (f : Fields) : Type 0 where
  pub hyperperiod : IsLcm (period_at f) f.n (table_problem f).capacity
  pub demand : (k : ℕ) → k < f.n → entry (table_problem f).demands k * period_at f k ≡ (budget_at f k + f.charge) * (table_problem f).capacity
  pub range : (k : ℕ) → k < f.n → (1 ≤ entry (table_problem f).demands k) × (entry (table_problem f).demands k ≤ (table_problem f).capacity)

-- What is promised of every plan: of its placement, a row of sixteen, and of the demand that it is said to reject.
pub record Safe (f : Fields) (row : List ℕ) (out : ℕ) : Type 0 where
  -- The weights are exact, and count the charge.
  pub exact : ExactDemands f
  -- No plan puts an exact load above one on any core,
  pub loads : (core : ℕ) → 1 ≤ core → core ≤ f.m → load_on f (choices_of f row) core ≤ hyperperiod_of f
  -- and each task has a core of the table, or is left out; entries beyond n are 0.
  pub feasible : Feasible (table_problem f) (choices_of f row)
  -- No task is on a core that its core byte does not permit;
  pub permitted : (k : ℕ) → k < f.n → 1 ≤ entry row k → permitted (affinity_at f k) (entry row k) ≡ true
  -- a core byte is 1 if it permits core 1, and 2, 4 and 8 more for cores 2, 3 and 4: it permits a core of the table, and none above.
  pub bytes : (k : ℕ) → k < f.n → CoreByte f.m (affinity_at f k)
  pub beyond : (k : ℕ) → f.n ≤ k → entry row k ≡ 0
  -- The rejected demand is that of the tasks that are left out.
  pub rejects : out ≡ load_on f (choices_of f row) 0

-- The stated order takes the tasks by falling demand, equal demands by shorter period, then by lower number; each task once.
abbrev pub StatedOrder : Fields → Type 0
StatedOrder f = InOrder (table_problem f).demands f.periods (order_of f) × Permutation f.n (order_of f)
