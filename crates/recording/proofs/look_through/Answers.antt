-- The pass has counted the records that begin before answer k, and has found none above 16.
use Rattle.recording.proofs.AnswerLaws.{survey_start, survey_above, survey_other, survey_same, survey_done}
use Rattle.recording.proofs.look_through.Goals as goal
use Rattle.recording.proofs.look_through.Goals.{then-task-before, else-task-before}

pub loop-k-init : goal.loop-k-init
loop-k-init c = survey_start _

pub returns-then-task-gt16 : goal.returns-then-task-gt16
returns-then-task-gt16 c = survey_above c.loop-k.invariant c.loop-k-test.true c.if-task-gt16.true

pub loop-k-preserved : goal.loop-k-preserved
loop-k-preserved c =
    let inv = c.loop-k.invariant in
    let h = c.loop-k-test.true in
    let low = c.if-task-gt16.false in
    elim c.if-task-before.branch [
      | then-task-before w ↦ rw (w.needed-is, w.before-is) (survey_other inv h low w.if-task-before.true)
      | else-task-before w ↦ rw (w.needed-is, w.before-is) (survey_same inv h low w.if-task-before.false)
    ]

pub returns : goal.returns
returns c = survey_done c.loop-k.invariant c.loop-k-test.false
