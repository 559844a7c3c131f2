-- One task's value after another is written at the end.
use Prim.Native.Nat.{◌<◌}
use mathlib.Core.Path.{◌≡◌}
use native.Mathlib.Omega.{arith}
use lib.ListN.{length, get_or}
use borrow.Author.Rules.{rules}
use Rattle.reorder.proofs.ListedLaws.{gather_start, gather_next, gather_done, listed_below}
use Rattle.reorder.proofs.in_planning_order.Goals as goal

pub loop-k-init : goal.loop-k-init
loop-k-init g c = gather_start _ _ _ _ c.requires

pub offset_bounds-values-order : goal.offset_bounds-values-order
offset_bounds-values-order g c =
    let below : get_or c.args.order c.loop-k.k 0 < 16 = omega (arith, listed_below c.loop-k.invariant.listed _ c.loop-k-test.true, c.requires.few) in
    search rules

pub bounds-values-order : goal.bounds-values-order
bounds-values-order g c = omega (arith, listed_below c.loop-k.invariant.listed _ c.loop-k-test.true, c.requires.few)

pub listed : goal.listed
listed g c =
    let long : length c.args.values ≡ 16 = search rules in
    omega (arith, listed_below c.loop-k.invariant.listed _ c.loop-k-test.true, c.requires.few)

pub loop-k-preserved : goal.loop-k-preserved
loop-k-preserved g c = gather_next c.loop-k.invariant _ c.loop-k-test.true (search rules)

pub returns : goal.returns
returns g c = gather_done c.loop-k.invariant c.loop-k-test.false
