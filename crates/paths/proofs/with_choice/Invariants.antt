-- The loop's invariant: the row, as far as the pass has come.
use Rattle.blend.proofs.OneEntry.{Changing}
use Rattle.paths.proofs.with_choice.Given as goal

abbrev pub invariant-loop-k : goal.invariant-loop-k
invariant-loop-k l = Changing (λ y x. x) l.initial.path l.at l.c 16 l.path l.k
