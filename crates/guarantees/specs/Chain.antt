-- From a plan to the ticks: the cores of every plan can be started, and each placed task is served.
use Rattle.std.specs.Prelude.{ℕ, ◌+◌, ◌≤◌, ◌<◌, ◌≡◌, List, length, Ok}
use Rattle.numbers.specs.Rows.{entry}
use Rattle.taskset.specs.Demands.{load_on}
use Rattle.taskset.specs.Table.{Table}
use Rattle.plans.specs.Safe.{choices_of}
use Rattle.planner.specs.Plan.{plan_of}
use Rattle.quick.specs.Quick.{quick_of}
use Rattle.edf.specs.Fresh.{Tasks}
use Rattle.edf.specs.Tick.{TickAnswer, ticked}
use Rattle.edf.specs.Guarantee.{period_start, received_in, owed_in}
use Rattle.runner.specs.declared.Core.{Core}
use Rattle.start.specs.Starts.{placed_tasks, start_of}

-- a plan: the exact planner's within a step limit, or the quick one
pub data Plan : Type 0 where
  exactly : ℕ → Plan
  quickly : Plan

-- its row of sixteen for a table, and its left_out demand
abbrev pub row_of : Table → Plan → List ℕ
row_of t (exactly limit) = (plan_of t limit).placement
row_of t quickly = (quick_of t).placement

abbrev pub left_out_of : Table → Plan → ℕ
left_out_of t (exactly limit) = (plan_of t limit).rejected
left_out_of t quickly = (quick_of t).rejected

-- the placement that it gives the table's tasks
abbrev pub placement_of : Table → Plan → List ℕ
placement_of t plan = choices_of t.fields (row_of t plan)

-- the tasks under that placement
abbrev pub tasks_of : Table → Plan → Tasks
tasks_of t plan = placed_tasks t.fields (placement_of t plan)

-- the fresh record of the core that has the task at k
abbrev pub record_of : Table → Plan → ℕ → Core
record_of t plan k = (start_of t (placement_of t plan) (entry (placement_of t plan) k)).core

-- the answers to a list of ticks from that record
abbrev pub answers_of : Table → Plan → ℕ → List (List ℕ) → List TickAnswer
answers_of t plan k ticks = ticked (record_of t plan k).charge (record_of t plan k).slots ticks

-- For every valid table and every plan of it, spent or not:
pub record Chain (t : Table) : Type 0 where
  -- each core of its placement is accepted as a fresh core,
  pub starts : (plan : Plan) (core : ℕ) → t.Valid → 1 ≤ core → core ≤ t.fields.m → (start_of t (placement_of t plan) core).outcome ≡ Ok tt
  -- so that every task that is placed receives in every complete period exactly what it asked for, up to its time, and the charge if it asked for any,
  pub served : (plan : Plan) → t.Valid → (ticks : List (List ℕ)) (k p : ℕ) → k < t.fields.n → 1 ≤ entry (placement_of t plan) k
      → period_start (tasks_of t plan) k (p + 1) ≤ length ticks → received_in (tasks_of t plan) (answers_of t plan k ticks) k p ≡ owed_in (tasks_of t plan) ticks k p
  -- and the answer says exactly which tasks are left out: the left_out demand is that of the tasks whose entry is 0.
  pub left_out : (plan : Plan) → t.Valid → left_out_of t plan ≡ load_on t.fields (placement_of t plan) 0
