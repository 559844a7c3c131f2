-- The loop has written the first k records.
use mathlib.Core.Path.{◌≡◌}
use lib.ListN.{length}
use Rattle.recording.specs.Tests.{write_answer}
use Rattle.runlog.proofs.WritingLaws.{Writing}
use Rattle.runlog.proofs.write.Given as goal

abbrev pub invariant-loop-k : goal.invariant-loop-k
invariant-loop-k g l =
    let t = g.L.Layout in (l.answer ≡ write_answer l.answers (length (t.records l.initial.row))) × Writing t.records t.holding l.answers l.initial.row l.row l.answer.count l.k l.at
