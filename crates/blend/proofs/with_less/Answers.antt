-- The loop's invariant: the loads, as far as the pass has come.
use Prim.Native.Nat.{◌-◌}
use native.Mathlib.Nat.{sub-zero}
use borrow.Author.Rules.{rules}
use Rattle.blend.proofs.OneCore.{cores_start, cores_next, cores_done, cores_less}
use Rattle.blend.proofs.with_less.Goals as goal

pub loop-k-init : goal.loop-k-init
loop-k-init c = cores_start ◌-◌ sub-zero _ _ _

pub overflow_sub-loads : goal.overflow_sub-loads
overflow_sub-loads c = search (rules, cores_less)

pub loop-k-preserved : goal.loop-k-preserved
loop-k-preserved c = cores_next ◌-◌ sub-zero c.loop-k.invariant c.pick.ensures (search rules)

pub returns : goal.returns
returns c = cores_done ◌-◌ sub-zero c.loop-k.invariant (search rules) (search rules)
