-- After k steps every task in between is one of 1 to k.
use Rattle.relation.proofs.CellLaws.{Closing}
use Rattle.relation.proofs.closure.Given as goal

abbrev pub invariant-loop-k : goal.invariant-loop-k
invariant-loop-k l = Closing l.initial.reached l.n l.reached l.k
