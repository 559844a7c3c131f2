-- What is promised of the answer for a table, for any step limit.
use Rattle.std.specs.Prelude.{ℕ, ◌≤◌, ◌<◌, ◌≡◌, true, false, List, ◌⊎◌, ◌↔◌, length, take, replicate}
use Rattle.numbers.specs.Reorder.{scatter}
use Rattle.allocation.specs.Placement.{Problem, Feasible, Full, rejected}
use Rattle.allocation.specs.Walk.{WalkAnswer, LastLeaf, NoLeaf, trace}
use Rattle.allocation.specs.TableOrder.{in_planning_order, BestPlan}

-- The answer a for the table T, whose tasks are planned in this order.
pub record Guarantee (T : Problem) (order : List ℕ) (limit : ℕ) (a : WalkAnswer) : Type 0 where
  -- No core's load is above the hyperperiod.
  pub feasible : Feasible T a.placement
  -- The rejected demand is that of the placement.
  pub rejects : a.rejected ≡ rejected T a.placement
  -- Spent is said exactly if the complete walk is longer than the limit; then `limit` steps have been made.
  pub spent : (a.spent ≡ true) ↔ (limit < length (trace (in_planning_order T order)))
  pub limited : a.spent ≡ true → a.steps ≡ limit
  -- The placement is the last one that the first `limit` steps complete; if they complete none, every task is left out.
  pub stores : ((p : List ℕ) × LastLeaf (take limit (trace (in_planning_order T order))) p × (a.placement ≡ scatter order p))
      ⊎ (NoLeaf (take limit (trace (in_planning_order T order))) × (a.placement ≡ replicate (length T.demands) 0))
  -- Unless it is spent, the whole walk has been made, and the placement is the best plan.
  pub complete : a.spent ≡ false → a.steps ≡ length (trace (in_planning_order T order))
  pub best : a.spent ≡ false → BestPlan T order a.placement
  -- All tasks are placed if and only if a full placement exists.
  pub all : a.spent ≡ false → (a.rejected ≡ 0) ↔ ((q : List ℕ) × Feasible T q × Full q)
  -- If something is rejected, every feasible placement rejects something.
  pub short : a.spent ≡ false → 1 ≤ a.rejected → (q : List ℕ) → Feasible T q → 1 ≤ rejected T q
