-- The cells so far are those after the step.
use Rattle.relation.proofs.CellLaws.{fill_start, fill_next, step_done}
use borrow.Author.Rules.{rules}
use Rattle.relation.proofs.by_way_of.Goals as goal

pub loop-c-init : goal.loop-c-init
loop-c-init c = search (rules, fill_start)

pub loop-c-preserved : goal.loop-c-preserved
loop-c-preserved c = search (rules, fill_next)

pub returns : goal.returns
returns c = search (rules, step_done)
