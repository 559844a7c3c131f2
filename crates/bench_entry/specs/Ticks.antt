-- What the benchmark of the tick returns: the sum of the tasks run and of the late tasks, so that no part of a tick can be left out.
use Rattle.std.specs.Prelude.{ℕ, zero, suc, ◌+◌, ◌%◌, List, cond, ltb, replicate}
use Rattle.oldform.specs.Form.{task_count, every_affinity}
use Rattle.oldform.specs.Limits.{beside}
use Rattle.edf.specs.declared.Slot.{Slot}
use Rattle.edf.specs.Tick.{TickAnswer, tick}
use Rattle.runner.specs.declared.Core.{Core}
use Rattle.start.specs.Starts.{start_of}

-- every task asks for all it can
abbrev pub full : List ℕ
full = replicate 16 4294967295

-- a sum with one task more, in 32 bits
abbrev pub plus : ℕ → ℕ → ℕ
plus sum task = (sum + task % 65536) % 4294967296

-- the sum after some ticks of a record, where it was `sum` before them
unfoldable pub sum_of_tasks : ℕ → ℕ → List Slot → ℕ → ℕ
sum_of_tasks sum charge slots zero = sum
sum_of_tasks sum charge slots (suc ticks) =
    let a : TickAnswer = tick charge slots full in
    sum_of_tasks (plus (plus sum a.run) a.late) a.charge a.slots ticks

-- the sum for a table with every core permitted, and all its tasks on core 1 of a board with this charge; 0 for more than sixteen tasks
unfoldable pub bench_sum : List ℕ → ℕ → ℕ → ℕ
bench_sum table charge ticks =
    let core : Core = (start_of (beside table charge (every_affinity table)) (replicate (task_count table) 1) 1).core in
    cond (ltb 16 (task_count table)) 0 (sum_of_tasks 0 core.charge core.slots ticks)
