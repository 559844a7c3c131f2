-- One task's value after another is written at the end.
use Rattle.reorder.proofs.ListedLaws.{Gathering}
use Rattle.reorder.proofs.in_planning_order.Given as goal

abbrev pub invariant-loop-k : goal.invariant-loop-k
invariant-loop-k g l = Gathering l.fn.zero l.fn.order l.fn.n l.fn.values l.row l.k
