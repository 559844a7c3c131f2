-- What is promised of the quick plan, in the table's terms, beside what is promised of every plan: what it is, and how it stands to the exact one.
use Rattle.std.specs.Prelude.{ℕ, ◌≤◌, ◌<◌, ◌≡◌, List, ◌≢◌, length, replicate}
use Rattle.numbers.specs.Reorder.{gather}
use Rattle.refusal.specs.Causes.{number_in}
use Rattle.fields.specs.declared.Fields.{Fields}
use Rattle.taskset.specs.Table.{Table}
use Rattle.allocation.specs.FirstFit.{OnLowest}
use Rattle.allocation.specs.TableOrder.{in_planning_order}
use Rattle.planning.specs.Problem.{table_problem, order_of}
use Rattle.planner.specs.Plan.{plan_of}
use Rattle.plans.specs.Safe.{choices_of, Safe, StatedOrder}
use Rattle.planner.specs.declared.Verdict.TheVariants.{All, Spent}
use Rattle.quick.specs.declared.QuickPlan.{QuickPlan}

pub record Lowest (f : Fields) (r : QuickPlan) : Type 0 where
  -- In planning order each task is on the lowest core that has room for it beside those before it, and left out exactly if none has.
  pub each : (k : ℕ) → k < f.n → OnLowest (in_planning_order (table_problem f) (order_of f)) (gather (order_of f) (choices_of f r.placement)) k
  -- No other placement of the n tasks is so.
  pub only : (other : List ℕ) → length other ≡ f.n
      → ((k : ℕ) → k < f.n → OnLowest (in_planning_order (table_problem f) (order_of f)) (gather (order_of f) other) k) → other ≡ choices_of f r.placement
  -- That order takes the tasks by falling demand, equal demands by shorter period, then by lower number; each task once.
  pub ordered : StatedOrder f

-- If it is accepted and leaves nothing out, the exact planner with any limit of at least n gives the same placement in n steps.
abbrev pub Agrees : Table → QuickPlan → Type 0
Agrees t r = number_in r.outcome ≡ 0 → r.rejected ≡ 0 → (limit : ℕ) → t.fields.n ≤ limit
    → plan_of t limit ≡ record { verdict = All; placement = r.placement; rejected = 0; steps = t.fields.n }

-- Its left-out weight is never below the exact planner's, unless that one was spent.
abbrev pub NoLess : Table → QuickPlan → Type 0
NoLess t r = (limit : ℕ) → (plan_of t limit).verdict ≢ Spent → (plan_of t limit).rejected ≤ r.rejected

-- It is the walk's first descent.
pub record Descent (t : Table) (r : QuickPlan) : Type 0 where
  -- With a limit of n the exact planner returns this placement, spent or not,
  pub placement : (plan_of t t.fields.n).placement ≡ r.placement
  pub rejected : (plan_of t t.fields.n).rejected ≡ r.rejected
  -- and with a larger one none that leaves out more.
  pub later : (limit : ℕ) → t.fields.n ≤ limit → (plan_of t limit).rejected ≤ r.rejected

-- A refused quick plan is all zeros beside its cause.
pub record RefusedQuick (r : QuickPlan) : Type 0 where
  pub placement : r.placement ≡ replicate 16 0
  pub rejected : r.rejected ≡ 0

-- What is promised of the answer for a table.
pub record Fits (t : Table) (r : QuickPlan) : Type 0 where
  pub safe : t.Valid → Safe t.fields r.placement r.rejected
  pub lowest : t.Valid → Lowest t.fields r
  pub exact : Agrees t r
  pub no_less : NoLess t r
  pub descent : Descent t r
  pub refused : number_in r.outcome ≢ 0 → RefusedQuick r
