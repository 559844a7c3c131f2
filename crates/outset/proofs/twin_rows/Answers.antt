-- Each entry is what is asked of its two cores.
use borrow.Author.Rules.{rules}
use Rattle.outset.specs.Twins.{twin_rows}
use Rattle.outset.proofs.twin_rows.Goals as goal

pub returns : goal.returns
unfolding twin_rows
returns c = c.row.ensures _ (λ k x h e. search rules)
