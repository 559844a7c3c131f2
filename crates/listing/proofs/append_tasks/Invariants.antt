-- After k turns the lines of the first k tasks are there.
use Rattle.listing.proofs.LineLaws.{Written}
use Rattle.listing.proofs.append_tasks.Given as goal

abbrev pub invariant-loop-k : goal.invariant-loop-k
invariant-loop-k l = Written l.initial.longer l.f l.cores l.longer l.k
