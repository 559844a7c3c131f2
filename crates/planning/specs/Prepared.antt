-- A task set made ready for a planner: the demands and core bytes of its tasks in planning order.
use Rattle.std.specs.Prelude.{ℕ, ◌≤◌, ◌≡◌, List, get_or, take}
use Rattle.taskset.specs.declared.TaskSet.{TaskSet}
use Rattle.allocation.specs.Placement.{problem_of}
use Rattle.allocation.specs.TableOrder.{in_planning_order}
use Rattle.reorder.specs.Listed.{Listed}
use Rattle.planning.specs.Problem.{table_problem, order_of}
use Rattle.planning.specs.declared.Prepared.{Prepared}

pub record Prepares (t : TaskSet) (order : List ℕ) (p : Prepared) : Type 0 where
  -- The order lists the tasks, each once, and is the planning order of the table.
  pub listed : Listed order t.fields.n
  pub is : take t.fields.n order ≡ order_of t.fields
  -- Demands and core bytes are those of the table's problem in that order, and no demand is above the hyperperiod.
  pub problem : problem_of t.hyperperiod t.fields.m (take t.fields.n p.demands) (take t.fields.n p.affinity)
      ≡ in_planning_order (table_problem t.fields) (order_of t.fields)
  pub small : (k : ℕ) → get_or p.demands k 0 ≤ t.hyperperiod
