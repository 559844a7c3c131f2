-- Demand 2, sentence by sentence, of the plan for fields within the limits, in the table's terms; and what a refused plan is.
use Rattle.std.specs.Prelude.{ℕ, ◌<◌, ◌≡◌, List, ◌⊎◌, ◌↔◌, ◌≢◌, length, take, replicate}
use Rattle.numbers.specs.Reorder.{scatter}
use Rattle.numbers.specs.Rows.{entry}
use Rattle.refusal.specs.Causes.{number_in}
use Rattle.affinity.specs.Permitted.{permitted}
use Rattle.fields.specs.Fields.{affinity_at}
use Rattle.fields.specs.declared.Fields.{Fields}
use Rattle.taskset.specs.Table.{Table}
use Rattle.planning.specs.Problem.{table_problem, order_of}
use Rattle.plans.specs.Safe.{choices_of, Safe, StatedOrder}
use Rattle.allocation.specs.Placement.{Problem, permits, Feasible, Full}
use Rattle.allocation.specs.Walk.{Step, trace, LastLeaf, NoLeaf}
use Rattle.allocation.specs.EntryRule.{Twins}
use Rattle.allocation.specs.DepthFirst.{DepthFirst}
use Rattle.allocation.specs.TableOrder.{in_planning_order, BestPlan}
use Rattle.planner.specs.Plan.{verdict_outcome}
use Rattle.planner.specs.declared.Allocation.{Allocation}
use Rattle.planner.specs.declared.Verdict.TheVariants.{All, Short, Spent}

-- what a table asks, with its tasks in planning order
abbrev pub planned_of : Fields → Problem
planned_of f = in_planning_order (table_problem f) (order_of f)

-- the complete walk, step by step
abbrev pub walk_of : Fields → List Step
walk_of f = trace (planned_of f)

pub record Promise (f : Fields) (limit : ℕ) (r : Allocation) : Type 0 where
  -- No plan puts an exact load above one on any core; each task has a core of the table, or is left out.
  pub safe : Safe f r.placement r.rejected
  -- Unless the step limit ran out, the plan is the best one: the least demand is rejected, the first in the stated order among equals.
  pub best : r.verdict ≢ Spent → BestPlan (table_problem f) (order_of f) (choices_of f r.placement)
  -- That order compares the tasks by falling demand, equal demands by shorter period, then by lower number; each task once.
  pub ordered : StatedOrder f
  -- "All placed" is said if and only if a full placement exists; "short" otherwise.
  pub all : r.verdict ≢ Spent → (r.verdict ≡ All) ↔ ((q : List ℕ) × Feasible (table_problem f) q × Full q)
  pub short : r.verdict ≢ Spent → (r.verdict ≡ Short) ↔ ((q : List ℕ) → Feasible (table_problem f) q → Full q → ⊥)
  -- That the limit ran out is said exactly if the complete walk is longer than the limit.
  pub spent : (r.verdict ≡ Spent) ↔ (limit < length (walk_of f))
  -- Then the placement is the last complete one among the walk's first `limit` steps, or all tasks are left out if there is none.
  pub stores : r.verdict ≡ Spent
      → ((p : List ℕ) × LastLeaf (take limit (walk_of f)) p × (choices_of f r.placement ≡ scatter (order_of f) p))
      ⊎ (NoLeaf (take limit (walk_of f)) × (choices_of f r.placement ≡ replicate f.n 0))
  -- The step count is the number of choices entered.
  pub limited : r.verdict ≡ Spent → r.steps ≡ limit
  pub complete : r.verdict ≢ Spent → r.steps ≡ length (walk_of f)

-- The tasks in turn: the one at place j is the table's task that the stated order has there, on the cores of the table.
pub record InTurn (f : Fields) : Type 0 where
  pub cores : (planned_of f).cores ≡ f.m
  pub capacity : (planned_of f).capacity ≡ (table_problem f).capacity
  pub tasks : length (planned_of f).demands ≡ f.n
  pub demand : (j : ℕ) → j < f.n → entry (planned_of f).demands j ≡ entry (table_problem f).demands (entry (order_of f) j)
  pub permitted : (j core : ℕ) → j < f.n → permits (planned_of f) j core ≡ permitted (affinity_at f (entry (order_of f) j)) core

-- The walk of a table.
pub record WalkRule (f : Fields) : Type 0 where
  -- It is over the tasks in the stated order,
  pub over : InTurn f
  -- depth first: the next step is always the first choice ahead that keeps the entry rule, until there is none; no other list of steps is so.
  pub steps : DepthFirst (planned_of f)
  -- Twins are two cores of which each task of the table permits both or neither.
  pub twins : (c d : ℕ) → Twins (planned_of f) c d ↔ ((k : ℕ) → k < f.n → permitted (affinity_at f k) c ≡ permitted (affinity_at f k) d)

-- A refused plan is all zeros beside its cause.
pub record RefusedPlan (r : Allocation) : Type 0 where
  pub placement : r.placement ≡ replicate 16 0
  pub rejected : r.rejected ≡ 0
  pub steps : r.steps ≡ 0

-- What is promised of the answer for a table: a valid table's plan keeps demand 2, its walk is the paper's, and a refused plan is zeros.
pub record Plans (t : Table) (limit : ℕ) (r : Allocation) : Type 0 where
  pub promise : t.Valid → Promise t.fields limit r
  pub walks : t.Valid → WalkRule t.fields
  pub refused : number_in (verdict_outcome r.verdict) ≢ 0 → RefusedPlan r
