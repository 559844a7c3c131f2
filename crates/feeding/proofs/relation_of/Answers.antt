-- The pairs so far are in the cells.
use native.Mathlib.Omega.{arith}
use Rattle.feeding.proofs.ListLaws.{gather_start, gather_next, gather_done}
use Rattle.feeding.proofs.relation_of.Goals as goal

pub loop-i-init : goal.loop-i-init
loop-i-init c = gather_start _

pub loop-i-preserved : goal.loop-i-preserved
loop-i-preserved c = gather_next _ _ c.loop-i.invariant c.feeding.ensures.0 c.fed.ensures.0 c.with_pair-next.ensures

pub returns : goal.returns
returns c = gather_done _ _ c.loop-i.invariant (omega (arith, c.count-i-end.ensures.0, c.loop-i.auto.i-end, c.loop-i-test.false))
