use mathlib.Core.Bool.{xor}
use Rattle.outset.proofs.tells_apart.Goals as goal

pub returns : goal.returns
unfolding xor
returns c = rw (c.permits.ensures, c.permits-2.ensures)
