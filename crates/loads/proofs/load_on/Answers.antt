-- The sum so far is the load of the tasks that were added.
use Rattle.loads.proofs.LoadLaws.{add_start, add_fits, add_next, add_done}
use borrow.Author.Rules.{rules}
use Rattle.loads.proofs.load_on.Goals as goal

pub loop-k-init : goal.loop-k-init
loop-k-init c = search (rules, add_start)

pub overflow_add-sum : goal.overflow_add-sum
overflow_add-sum c = search (rules, add_fits)

pub loop-k-preserved : goal.loop-k-preserved
loop-k-preserved c = search (rules, add_next)

pub returns : goal.returns
returns c = search (rules, add_done)
