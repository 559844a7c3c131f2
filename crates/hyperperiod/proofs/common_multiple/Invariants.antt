-- The running multiple, task by task, until it exceeds 1,000,000.
use Rattle.hyperperiod.proofs.MultipleLaws.{Multiplying}
use Rattle.hyperperiod.proofs.common_multiple.Given as goal

abbrev pub invariant-loop-k : goal.invariant-loop-k
invariant-loop-k l = Multiplying l.f l.k l.h
