-- The demands as the firmware sees them: in the number returned and the bytes of its buffer.
use Rattle.std.specs.Prelude.{ℕ, ◌+◌, ◌≤◌, ◌<◌, ◌≡◌, List, ◌↔◌, ◌≢◌, length, take, drop}
use Rattle.refusal.specs.Conditions.{First}
use Rattle.taskset.specs.Table.{Table}
use Rattle.allocation.specs.Placement.{Feasible, Full}
use Rattle.planning.specs.Problem.{table_problem}
use Rattle.plans.specs.Safe.{choices_of}
use Rattle.planner.specs.Promise.{Promise, walk_of}
use Rattle.planner.specs.declared.Allocation.{Allocation}

-- Demand 1: a valid call gets a plan; any other is refused with the number of the first condition that holds, and its buffer is left as it was.
pub record Answers (t : Table) (buffer : List ℕ) (code : ℕ) (after : List ℕ) : Type 0 where
  pub accepted : (code ≤ 2) ↔ t.Valid
  pub refused : (number : ℕ) → (code ≡ 100 + number) ↔ ((place : ℕ) × First t.conditions number place)
  pub untouched : 100 ≤ code → after ≡ buffer

-- Demand 2, of a call that is not refused.
pub record Keeps (t : Table) (buffer : List ℕ) (limit code : ℕ) (after : List ℕ) : Type 0 where
  -- The code is 2 exactly if the walk is longer than the limit;
  pub spent : (code ≡ 2) ↔ (limit < length (walk_of t.fields))
  -- unless it is 2, it is 0 exactly if a full placement exists.
  pub all : code ≢ 2 → (code ≡ 0) ↔ ((q : List ℕ) × Feasible (table_problem t.fields) q × Full q)
  -- The first n bytes are the core numbers of a plan that keeps the planner's promise,
  pub plan : Allocation
  pub promise : Promise t.fields limit plan
  pub written : take t.fields.n after ≡ choices_of t.fields plan.placement
  -- and every byte from n on is what it was.
  pub beyond : drop t.fields.n after ≡ drop t.fields.n buffer
