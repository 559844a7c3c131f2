-- Zeros are the definition.
use mathlib.Core.Path.{refl}
use Rattle.slots.proofs.empty.Goals as goal

pub returns : goal.returns
returns c = refl
