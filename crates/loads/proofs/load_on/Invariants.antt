-- The sum so far is the load of the tasks that were added.
use Rattle.loads.proofs.LoadLaws.{Adding}
use Rattle.loads.proofs.load_on.Given as goal

abbrev pub invariant-loop-k : goal.invariant-loop-k
invariant-loop-k l = Adding l.t l.placement l.core l.sum l.k
