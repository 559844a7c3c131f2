-- What holds after each slot of a part of the pass: an empty slot, one that is due, and one that is not.
use Rattle.sweep.proofs.SweepLaws.{Still}
use Rattle.sweep.proofs.pass.Given as goal

abbrev pub invariant-loop-done : goal.invariant-loop-done
invariant-loop-done l = Still l.charge l.requests l.from l.to l.initial.next l.initial.late l.initial.choice l.done l.next l.late l.choice
