-- One task's choice after another is written at its place in the table.
use mathlib.Core.Path.{refl}
use native.Mathlib.Omega.{arith}
use Rattle.reorder.proofs.ListedLaws.{scatter_start, scatter_next, scatter_done, listed_below}
use Rattle.reorder.proofs.in_table_order.Goals as goal

pub loop-k-init : goal.loop-k-init
loop-k-init c = scatter_start _ _ _ c.requires

pub bounds-placement-order : goal.bounds-placement-order
bounds-placement-order c = omega (arith, listed_below c.loop-k.invariant.listed _ c.loop-k-test.true, c.requires.few)

pub loop-k-preserved : goal.loop-k-preserved
loop-k-preserved c = scatter_next c.loop-k.invariant c.loop-k-test.true refl

pub returns : goal.returns
returns c = scatter_done c.loop-k.invariant c.loop-k-test.false
