-- The cells so far are those after the step.
use Rattle.relation.specs.Cells.{through_at}
use Rattle.relation.proofs.CellLaws.{Filled}
use Rattle.relation.proofs.by_way_of.Given as goal

abbrev pub invariant-loop-c : goal.invariant-loop-c
invariant-loop-c l = Filled (through_at l.cells l.k) l.cell-items l.c
