-- Sixteen zeros.
use mathlib.Core.Path.{refl}
use Rattle.dependencies.specs.Order.{refused_order}
use Rattle.dependencies.proofs.refused.Goals as goal

pub returns : goal.returns
unfolding refused_order
returns c = refl
