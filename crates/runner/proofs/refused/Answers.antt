-- The refusal is as it is written.
use mathlib.Core.Path.{refl}
use Rattle.runner.proofs.refused.Goals as goal

pub returns : goal.returns
returns c = refl
