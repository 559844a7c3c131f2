-- The cell after the step is the definition.
use Rattle.relation.specs.Cells.{through_at}
use borrow.Author.Rules.{rules}
use Rattle.relation.proofs.through_cell.Goals as goal

pub returns : goal.returns
unfolding through_at
returns c = search rules
