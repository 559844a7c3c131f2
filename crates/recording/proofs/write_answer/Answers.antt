-- Too many answers end it; else the answer goes by what the pass finds.
use Rattle.recording.proofs.AnswerLaws.{write_long, write_above, write_counted}
use Rattle.recording.proofs.write_answer.Goals as goal

pub returns-in-Err : goal.returns-in-Err
returns-in-Err c = write_long _ _ c.refuse_if-long.ensures c.in-Err.is c.answer.ensures

pub returns-in-Ok-look_through : goal.returns-in-Ok-look_through
returns-in-Ok-look_through c = write_counted _ _ c.refuse_if-long.ensures c.in-Ok.is c.in-Ok-look_through.ensures c.room_test-fits.ensures c.answer-in-Ok-look_through.ensures

pub returns-in-Err-look_through : goal.returns-in-Err-look_through
returns-in-Err-look_through c = write_above _ _ c.refuse_if-long.ensures c.in-Ok.is c.in-Err-look_through.ensures c.answer-in-Err-look_through.ensures
