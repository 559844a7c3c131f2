-- The table is read, and what was read has the ceiling.
use Rattle.oldform.proofs.OldLaws.{beside_sound}
use Rattle.ceiling.proofs.PromiseLaws.{ceiling_all}
use Rattle.ceiling.proofs.step_ceiling.Goals as goal

pub returns : goal.returns
returns c =
    let said = ceiling_all (beside_sound _ _ _) c.read_beside-reading.ensures.answer c.ceiling_read.ensures in
    record { answer = said.0; decides = said.1.0; promise = said.1.1 }
