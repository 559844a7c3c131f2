-- The bytes before the loop's index are there.
use Rattle.text.proofs.ClipLaws.{Spelled}
use Rattle.text.proofs.append_bytes.Given as goal

abbrev pub invariant-loop-b : goal.invariant-loop-b
invariant-loop-b l = Spelled l.initial.longer l.bytes l.longer l.b-index
