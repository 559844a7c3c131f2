-- The pairs so far are in the cells.
use Rattle.relation.specs.Cells.{Cells}
use Rattle.pairs.specs.Pairs.{said_by}
use Rattle.feeding.proofs.relation_of.Given as goal

abbrev pub invariant-loop-i : goal.invariant-loop-i
invariant-loop-i l = Cells l.cells (said_by l.list l.i)
