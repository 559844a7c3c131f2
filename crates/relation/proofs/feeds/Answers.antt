-- The cell is the definition.
use mathlib.Core.Path.{refl}
use Rattle.relation.proofs.feeds.Goals as goal
use Rattle.relation.specs.Cells.{edge}

pub returns : goal.returns
unfolding edge
returns c = refl
