-- What the shown lines come to.
use Rattle.std.specs.Prelude.{ℕ, List, take}
use Rattle.edf.specs.Tick.{TickAnswer, tick}
use Rattle.oldform.specs.Limits.{beside}
use Rattle.planner.specs.Plan.{plan_of}
use Rattle.runner.specs.declared.Core.{Core}
use Rattle.start.specs.Starts.{start_of}

-- the first tick of core 1, started from the plan of a table on a board with a switch charge of 1
unfoldable pub first_tick : List ℕ → List ℕ → ℕ → List ℕ → TickAnswer
first_tick table cores n requests =
    let core : Core = (start_of (beside table 1 cores) (take n (plan_of (beside table 1 cores) 1000000).placement) 1).core in
    tick core.charge core.slots requests
