-- The loop's invariant: the row, as far as the pass has come.
use borrow.Author.Rules.{rules}
use Rattle.blend.proofs.OneEntry.{change_start, change_pick, change_done}
use Rattle.paths.proofs.with_choice.Goals as goal

pub loop-k-init : goal.loop-k-init
loop-k-init c = search (rules, change_start)

pub loop-k-preserved : goal.loop-k-preserved
loop-k-preserved c = search (rules, change_pick)

pub returns : goal.returns
returns c = change_done c.loop-k.invariant (search rules) (search rules)
