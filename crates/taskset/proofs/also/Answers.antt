-- The reading stands where both accept.
use Rattle.taskset.proofs.ReadingLaws.{by_refused, behind_accepted}
use Rattle.taskset.proofs.also.Goals as goal

pub returns-in-Err : goal.returns-in-Err
returns-in-Err c = by_refused _ c.refused.ensures c.then.ensures c.in-Err.is

pub returns-in-Ok : goal.returns-in-Ok
returns-in-Ok c = behind_accepted _ c.requires _ c.then.ensures c.in-Ok.is
