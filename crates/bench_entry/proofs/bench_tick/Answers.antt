-- The fresh core of all tasks, then the sum over its ticks.
use native.Mathlib.Omega.{arith}
use mathlib.Core.Path.{sym}
use lib.Seq.{length-take-le}
use Rattle.bench_entry.proofs.TickSums.{bench_many, bench_few}
use borrow.Author.Rules.{rules}
use Rattle.bench_entry.proofs.bench_tick.Goals as goal

pub returns-then-n-gt16 : goal.returns-then-n-gt16
returns-then-n-gt16 c = search (rules, bench_many)

pub slice_bounds-fresh-end : goal.slice_bounds-fresh-end
slice_bounds-fresh-end c = sym (length-take-le _ _ (omega arith))

pub slice_bounds-fresh-end-2 : goal.slice_bounds-fresh-end-2
slice_bounds-fresh-end-2 c = sym (length-take-le _ _ (omega arith))

pub returns : goal.returns
returns c = bench_few _ _ _ _ c.byte.ensures c.size-n.ensures.0 c.if-n-gt16.false c.byte-2.ensures c.size.ensures.0 c.every_core-byte.ensures c.fresh-started.ensures.answer c.sum_of_tasks.ensures
