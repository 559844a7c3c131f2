-- The sum so far and the record now give what is still to come.
use Prim.Native.Nat.{◌-◌}
use Rattle.bench_entry.proofs.TickSums.{Summing}
use Rattle.bench_entry.proofs.sum_of_tasks.Given as goal

abbrev pub invariant-loop : goal.invariant-loop
invariant-loop l = Summing l.initial.now l.ticks l.requests l.now l.sum (l.ticks - l.counter)
