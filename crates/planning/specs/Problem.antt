-- What a table asks of every planner. Tasks are counted from 0 in table order.
use Rattle.std.specs.Prelude.{ℕ, List}
use Rattle.numbers.specs.Rows.{tab}
use Rattle.numbers.specs.Sorting.{sorted}
use Rattle.fields.specs.Fields.{affinity_at}
use Rattle.fields.specs.Hyperperiod.{hyperperiod_of}
use Rattle.taskset.specs.Demands.{demand_of}
use Rattle.taskset.specs.Reading.{task_set_of}
use Rattle.fields.specs.declared.Fields.{Fields}
use Rattle.ordering.specs.Order.{precedes}
use Rattle.allocation.specs.Placement.{Problem, problem_of}

-- the tasks' demands and core bytes, on cores that each hold one hyperperiod
unfoldable pub table_problem : Fields → Problem
table_problem f = problem_of (hyperperiod_of f) f.m (tab f.n (demand_of f)) (tab f.n (affinity_at f))

-- the tasks in planning order
unfoldable pub order_of : Fields → List ℕ
order_of f = sorted (precedes (task_set_of f)) f.n
