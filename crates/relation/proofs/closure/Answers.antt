-- After k steps every task in between is one of 1 to k.
use Rattle.relation.proofs.CellLaws.{close_start, close_next, close_done}
use borrow.Author.Rules.{rules}
use Rattle.relation.proofs.closure.Goals as goal

pub loop-k-init : goal.loop-k-init
loop-k-init c = search (rules, close_start)

pub loop-k-preserved : goal.loop-k-preserved
loop-k-preserved c = close_next c.loop-k.invariant c.loop-k-test.true c.requires c.by_way_of-next.ensures

pub returns : goal.returns
returns c = search (rules, close_done)
