-- Four bytes stand in the place of four others.
use native.Mathlib.Omega.{arith}
use mathlib.Core.Path.{◌∙◌}
use Rattle.wire.proofs.LentLaws.{over_part}
use Rattle.packing.proofs.put_word.Goals as goal

pub returns : goal.returns
returns c = over_part _ _ _ (c.copy_from_slice.ensures.after ∙ c.to_le_bytes.ensures) (omega arith)
