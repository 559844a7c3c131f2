-- Three numbers.
use Rattle.caseblocks.proofs.run_in.Goals as goal

pub returns : goal.returns
returns c = λ i. record { task = c.word-task.ensures i; first = c.word-first.ensures i; length = c.word-length.ensures i }
