-- The pass has counted the records that begin before answer k, and has found none above 16.
use Rattle.recording.proofs.AnswerLaws.{Surveying}
use Rattle.recording.proofs.look_through.Given as goal

abbrev pub invariant-loop-k : goal.invariant-loop-k
invariant-loop-k l = Surveying l.answers l.needed l.before l.k
