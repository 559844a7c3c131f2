-- The table is read, and what was read is planned.
use Rattle.oldform.proofs.OldLaws.{beside_sound}
use Rattle.planner.proofs.PromiseLaws.{plan_all}
use Rattle.planner.proofs.plan.Goals as goal

pub returns : goal.returns
returns c =
    let said = plan_all (beside_sound _ _ _) c.read_beside-reading.ensures.answer _ c.plan_read.ensures in
    record { answer = said.0; decides = said.1.0; plans = said.1.1 }
