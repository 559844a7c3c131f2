-- One task's choice after another is written at its place in the table.
use Rattle.reorder.proofs.ListedLaws.{Scattering}
use Rattle.reorder.proofs.in_table_order.Given as goal

abbrev pub invariant-loop-k : goal.invariant-loop-k
invariant-loop-k l = Scattering l.fn.order l.fn.n l.fn.choices l.placement l.k
