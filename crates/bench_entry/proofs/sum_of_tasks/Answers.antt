-- The sum so far and the record now give what is still to come.
use Prim.Native.Nat.{◌+◌, ◌-◌}
use mathlib.Core.Path.{◌≡◌}
use native.Mathlib.Omega.{arith}
use Rattle.bench_entry.proofs.TickSums.{plus_small, sum_start, sum_next, sum_done}
use borrow.Author.Rules.{rules}
use Rattle.bench_entry.proofs.sum_of_tasks.Goals as goal

pub loop-init : goal.loop-init
loop-init c = let e : c.args.ticks - 0 ≡ c.args.ticks = omega arith in rw e (search (rules, sum_start))

pub loop-preserved : goal.loop-preserved
loop-preserved c =
    let e : c.args.ticks - (c.loop.counter + 1) ≡ c.args.ticks - c.loop.counter - 1 = omega arith in
    rw e (sum_next c.loop.invariant _ (omega (arith, c.loop-test.true)) c.tick-ticked.ensures.answer c.plus-sum.ensures c.plus-sum-in-loop.ensures)

pub returns : goal.returns
returns c = sum_done c.loop.invariant (omega (arith, c.loop-test.false))
