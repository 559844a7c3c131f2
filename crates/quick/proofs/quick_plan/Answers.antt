-- The table is read, and what was read is planned.
use Rattle.oldform.proofs.OldLaws.{beside_sound}
use Rattle.quick.proofs.PromiseLaws.{quick_all}
use Rattle.quick.proofs.quick_plan.Goals as goal

pub returns : goal.returns
returns c =
    let said = quick_all (beside_sound _ _ _) c.read_beside-reading.ensures.answer c.quick_read.ensures in
    record { answer = said.0; decides = said.1.0; fits = said.1.1 }
