-- The loop's invariant is `Fitting`: the choices so far are the beginning of first fit.
use Prim.Native.Nat.{suc}
use native.Mathlib.Omega.{arith}
use Rattle.firstfit.proofs.Fitting.{fit_start, fit_room, out_room, core_small, fit_next, fit_done}
use borrow.Author.Rules.{rules}
use Rattle.firstfit.proofs.first_fit.Goals as goal

pub loop-k-init : goal.loop-k-init
loop-k-init c = search (rules, fit_start)

pub lowest_core-core-requires : goal.lowest_core-core-requires
lowest_core-core-requires c =
    let s = c.loop-k.invariant in
    (s.ranges.few_cores, s.ranges.each c.loop-k.k)

pub overflow_cast-choice : goal.overflow_cast-choice
overflow_cast-choice c = omega (arith, core_small _ _ _ _ _ c.loop-k.invariant c.loop-k-test.true c.lowest_core-core.ensures)

pub with_more-more-requires : goal.with_more-more-requires
with_more-more-requires c =
    let s = c.loop-k.invariant in
    (core_small _ _ _ _ _ s c.loop-k-test.true c.lowest_core-core.ensures, λ j. fit_room _ _ _ _ _ s (suc j) c.loop-k.k)

pub overflow_cast-core : goal.overflow_cast-core
overflow_cast-core c = omega (arith, core_small _ _ _ _ _ c.loop-k.invariant c.loop-k-test.true c.lowest_core-core.ensures)

pub overflow_add-rejected : goal.overflow_add-rejected
overflow_add-rejected c = omega (arith, out_room _ _ _ _ _ c.loop-k.invariant c.lowest_core-core.result c.pick-rejected.ensures)

pub loop-k-preserved : goal.loop-k-preserved
loop-k-preserved c = search (rules, fit_next)

pub overflow_cast-result : goal.overflow_cast-result
overflow_cast-result c = omega (arith, c.loop-k.invariant.ranges.few)

pub returns : goal.returns
returns c = search (rules, fit_done)
