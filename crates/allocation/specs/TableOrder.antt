-- The best plan and the walk's answer in table order. Tasks are counted from 0 as in the table; `order` lists them in planning order.
use Rattle.std.specs.Prelude.{ℕ, List}
use Rattle.numbers.specs.Reorder.{gather, scatter}
use Rattle.allocation.specs.Placement.{Problem}
use Rattle.allocation.specs.Best.{Before, BestBy}
use Rattle.allocation.specs.Walk.{WalkAnswer, answer}

-- the problem with its tasks in planning order
abbrev pub in_planning_order : Problem → List ℕ → Problem
in_planning_order T order = record {
  capacity = T.capacity;
  cores = T.cores;
  demands = gather order T.demands;
  affinity = gather order T.affinity;
}

-- one placement in table order comes before another: they are compared task by task in planning order
abbrev pub BeforeIn : List ℕ → List ℕ → List ℕ → Type 0
BeforeIn order p q = Before (gather order p) (gather order q)

-- the best plan of a table, in table order
abbrev pub BestPlan : Problem → List ℕ → List ℕ → Type 0
BestPlan T order p = BestBy (BeforeIn order) T p

-- an answer with its placement put back into table order
abbrev pub in_table : List ℕ → WalkAnswer → WalkAnswer
in_table order a = record { placement = scatter order a.placement; rejected = a.rejected; steps = a.steps; spent = a.spent }

-- the answer for a table: that of the walk over its tasks in planning order
unfoldable pub table_answer : Problem → List ℕ → ℕ → WalkAnswer
table_answer T order limit = in_table order (answer (in_planning_order T order) limit)
