-- The tasks so far stand in the row and are marked.
use Rattle.sequencing.proofs.MarkLaws.{Placing}
use Rattle.sequencing.proofs.task_order.Given as goal

abbrev pub invariant-loop-i : goal.invariant-loop-i
invariant-loop-i l = Placing l.cells l.n l.order l.placed l.i
