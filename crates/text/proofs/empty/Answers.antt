-- Nothing is shown.
use mathlib.Core.Path.{refl}
use Rattle.text.specs.Shown.{shown}
use Rattle.text.proofs.empty.Goals as goal

pub returns : goal.returns
unfolding shown
returns c = refl
