-- Code and buffer are those of the definitions, which keep the demands.
use Rattle.firmware.proofs.CallLaws.{called_sound, entry-all}
use Rattle.firmware.proofs.millplan_plan.Goals as goal

pub returns : goal.returns
returns c =
    let said = entry-all (called_sound _ _) (c.plan_into.ensures.code, c.plan_into.ensures.buffer) in
    record { code = said.0; buffer = said.1.0; answers = said.1.1.0; keeps = said.1.1.1 }
