-- The loop's invariant: the loads, as far as the pass has come.
use Prim.Native.Nat.{◌+◌}
use native.Mathlib.Nat.{add-zero}
use borrow.Author.Rules.{rules}
use Rattle.blend.proofs.OneCore.{cores_start, cores_next, cores_done, cores_more}
use Rattle.blend.proofs.with_more.Goals as goal

pub loop-k-init : goal.loop-k-init
loop-k-init c = cores_start ◌+◌ add-zero _ _ _

-- the sum with what is picked fits
pub overflow_add-loads : goal.overflow_add-loads
overflow_add-loads c = record { fits = cores_more c.pick.ensures c.loop-k.invariant c.requires.1 }

pub loop-k-preserved : goal.loop-k-preserved
loop-k-preserved c = cores_next ◌+◌ add-zero c.loop-k.invariant c.pick.ensures (search rules)

pub returns : goal.returns
returns c = cores_done ◌+◌ add-zero c.loop-k.invariant (search rules) (search rules)
