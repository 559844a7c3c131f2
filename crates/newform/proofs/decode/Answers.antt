-- The fields are read at their places.
use mathlib.Core.Path.{◌∙◌}
use Rattle.newform.proofs.NewLaws.{new_decoded}
use Rattle.newform.proofs.decode.Goals as goal

pub returns : goal.returns
returns c = new_decoded _ c.decode.ensures (c.size-n.ensures.0 ∙ c.byte.ensures) (c.wide-charge.ensures.0 ∙ c.byte-2.ensures) c.bytes-affinity.ensures
