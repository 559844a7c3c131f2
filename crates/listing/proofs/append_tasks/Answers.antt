-- After k turns the lines of the first k tasks are there.
use Rattle.listing.proofs.LineLaws.{lines_start, lines_next, lines_done}
use borrow.Author.Rules.{rules}
use Rattle.listing.proofs.append_tasks.Goals as goal

pub loop-k-init : goal.loop-k-init
loop-k-init c = search (rules, lines_start)

pub loop-k-preserved : goal.loop-k-preserved
loop-k-preserved c = search (rules, lines_next)

pub returns : goal.returns
returns c = search (rules, lines_done)
