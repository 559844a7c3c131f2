-- What is left of the walk follows from the loops' variables; each move makes one step of it, or none.
use Prim.Native.Nat.{suc, ◌+◌}
use borrow.Author.Tests.{le-leb, lt-leb}
use mathlib.Core.Path.{refl}
use mathlib.Core.Bool.{true, false}
use native.Mathlib.Omega.{arith}
use borrow.Author.Rules.{rules}
use Rattle.walk.proofs.State.{locals, Walking, Looked, past, stores, walk_start, walk_done, walk_over, next_one, walk_back, may_improve, one_less, last_small, last_core, last_out}
use Rattle.walk.proofs.State.{depth_small, depth_byte, load_small, out_small, choice_small, skips, improves, stops, more, descends, no_choice_left, one_step_less, no_fewer}
use Rattle.walk.proofs.Choices.{job, total_small, ranges_fixed, core_passed, core_taken, none_looked}
use Rattle.walk.proofs.walk.Goals as goal
use Rattle.walk.proofs.walk.Goals.{then-next-m+else-not-is_tried, else-next-m+else-m-next+else-bound-out, then-m-next-via-then-m-next, then-m-next-via-else-m-next+then-bound-out}

-- the choice that is entered, where the ways to it have met
entering : (c : goal.Else-steps-limit)
    → let a = c.args in
    let l = c.choices in
    Looked (job a.demands a.affinity a.n a.m a.h a.limit)
    (locals l.path l.loads l.out l.best l.rejected l.bound l.steps l.depth l.next) c.if-next-m.c true
entering c =
    let l = c.choices in
    let e = c.requires.excess_is in
    let t = c.requires.twins_are in
    elim c.if-next-m.branch [
      | then-next-m+else-not-is_tried w ↦
          rw w.c-is (core_taken l.invariant.0 w.if-next-m.true t e l.invariant.4 w.is_tried.ensures w.if-not-is_tried.false)
      | else-next-m+else-m-next+else-bound-out w ↦
          rw w.c-is (none_looked l.invariant.0 w.if-next-m.false w.if-m-next.false e l.invariant.4 (lt-leb _ _ w.if-bound-out.false))
    ]

-- no choice is left, where the ways to that have met
none_left : (c : goal.Else-depth-eq0)
    → let a = c.args in
    let l = c.choices in
    Walking (job a.demands a.affinity a.n a.m a.h a.limit)
    (locals l.path l.loads l.out l.best l.rejected l.bound l.steps l.depth (a.m + 1))
none_left c =
    let l = c.choices in
    let e = c.requires.excess_is in
    elim c.then-m-next.branch [
      | then-m-next-via-then-m-next w ↦ past l.invariant.0 (omega (arith, l.invariant.0.next_within, w.if-m-next.true))
      | then-m-next-via-else-m-next+then-bound-out w ↦
          past (skips (none_looked l.invariant.0 c.if-next-m.false w.if-m-next.false e l.invariant.4 (le-leb _ _ w.if-bound-out.true))) (omega (arith, c.if-next-m.false, w.if-m-next.false))
    ]

-- the placement that is stored
storing : (c : goal.Else-bound-excess)
    → let a = c.args in
    let l = c.choices in
    let p = c.with_choice-path.result in
    let w = l.out + c.pick.result in
    Walking (job a.demands a.affinity a.n a.m a.h a.limit) (locals p l.loads l.out p w w (l.steps + 1) l.depth (a.m + 1))
storing c =
    let v = entering c.before.before.before.before.before in
    stores v c.if-steps-limit.false (omega (arith, c.if-depth-deepest.false))
    (rw (depth_byte v.state) at c.with_choice-path.ensures) c.pick.ensures

pub overflow_add-bound : goal.overflow_add-bound
overflow_add-bound c = omega (arith, c.requires.total_is, total_small c.requires.ranges c.args.affinity)

pub tasks-init : goal.tasks-init
tasks-init c =
    let a = c.args in
    let g = c.requires.ranges in
    (walk_start (job a.demands a.affinity a.n a.m a.h a.limit) (ranges_fixed g a.affinity (search rules)) g.some _ c.requires.total_is, refl, record { excess-below = omega (arith, c.requires.total_is, c.requires.excess_is); out_below = λ h. omega arith })

pub is_tried-requires : goal.is_tried-requires
is_tried-requires c =
    let r = c.requires.ranges in
    (r.each c.choices.depth, omega (arith, c.if-next-m.true, r.few_cores))

pub choices-preserved-then-not-is_tried : goal.choices-preserved-then-not-is_tried
choices-preserved-then-not-is_tried c =
    let l = c.choices in
    (skips (core_passed l.invariant.0 c.if-next-m.true c.requires.twins_are c.requires.excess_is l.invariant.4 c.is_tried.ensures c.if-not-is_tried.true), l.invariant.1, l.invariant.2, l.invariant.3, next_one l.invariant.4)

pub overflow_add-out : goal.overflow_add-out
overflow_add-out c = omega (arith, load_small c.choices.invariant.0 0)

pub with_less-loads-requires : goal.with_less-loads-requires
with_less-loads-requires c =
    let s = c.choices.invariant.0 in
    let f = one_less c.if-depth-eq0.false in
    (last_small s f refl, last_core s f refl)

pub overflow_sub-out : goal.overflow_sub-out
overflow_sub-out c = omega (arith, c.pick-out.ensures, last_out c.choices.invariant.0 (one_less c.if-depth-eq0.false) refl)

pub tasks-preserved-then-m-next : goal.tasks-preserved-then-m-next
tasks-preserved-then-m-next c =
    let f = one_less c.if-depth-eq0.false in
    let t = c.choices.invariant in
    (walk_back (none_left c.before.before.before) f refl (omega arith) c.with_less-loads.ensures c.pick-out.ensures c.resume-next.ensures, t.3, record { excess-below = t.4.excess-below; out_below = may_improve _ _ _ _ _ c.resume-next.ensures })

pub overflow_add-steps : goal.overflow_add-steps
overflow_add-steps c = omega (arith, c.choices.invariant.0.within)

pub overflow_cast-c : goal.overflow_cast-c
overflow_cast-c c = omega (arith, choice_small (entering c.before.before))

pub with_choice-path-requires : goal.with_choice-path-requires
with_choice-path-requires c =
    let s = (entering c.before.before).state in
    omega (arith, depth_byte s, depth_small s)

pub with_more-loads-requires : goal.with_more-loads-requires
with_more-loads-requires c =
    let v = entering c.before.before.before.before in
    (choice_small v, λ k. omega (arith, load_small v.state (suc k)))

pub overflow_add-out-then-depth-deepest : goal.overflow_add-out-then-depth-deepest
overflow_add-out-then-depth-deepest c = omega (arith, out_small c.choices.invariant.0 c.if-next-m.c c.pick-out-then-depth-deepest.ensures)

pub overflow_add-depth : goal.overflow_add-depth
overflow_add-depth c = omega (arith, depth_small c.choices.invariant.0)

pub tasks-smaller : goal.tasks-smaller
tasks-smaller c =
    let t = c.choices.invariant in
    one_step_less t.2 (more (entering c.before.before.before.before.before) c.if-steps-limit.false) t.1

pub tasks-preserved : goal.tasks-preserved
tasks-preserved c =
    let v = entering c.before.before.before.before.before in
    let t = c.choices.invariant in
    (descends v c.if-steps-limit.false (omega (arith, c.if-depth-deepest.true)) (rw (depth_byte v.state) at c.with_choice-path.ensures) c.with_more-loads.ensures c.pick-out-then-depth-deepest.ensures, t.3, record { excess-below = t.4.excess-below; out_below = λ h. improves v c.pick-out-then-depth-deepest.ensures })

pub overflow_add-rejected : goal.overflow_add-rejected
overflow_add-rejected c = omega (arith, out_small c.choices.invariant.0 c.if-next-m.c c.pick.ensures)

pub overflow_add-next-in-choices : goal.overflow_add-next-in-choices
overflow_add-next-in-choices c = omega (arith, c.requires.ranges.few_cores)

pub choices-smaller : goal.choices-smaller
choices-smaller c = no_choice_left (entering c.before.before.before.before.before).within

pub choices-preserved : goal.choices-preserved
choices-preserved c =
    let t = c.choices.invariant in
    (storing c, t.1, no_fewer t.2, t.3, record { excess-below = c.if-bound-excess.false; out_below = λ h. absurd (omega arith) })

pub returns-then-depth-eq0 : goal.returns-then-depth-eq0
returns-then-depth-eq0 c =
    let a = c.args in
    let l = c.choices in
    let e = c.requires.excess_is in
    let w : Walking (job a.demands a.affinity a.n a.m a.h a.limit)
    (locals l.path l.loads l.out l.best l.rejected l.bound l.steps l.depth (a.m + 1)) =
    elim c.then-m-next.branch [
      | then-m-next-via-then-m-next w ↦ past l.invariant.0 (omega (arith, l.invariant.0.next_within, w.if-m-next.true))
      | then-m-next-via-else-m-next+then-bound-out w ↦
          past (skips (none_looked l.invariant.0 c.if-next-m.false w.if-m-next.false e l.invariant.4 (le-leb _ _ w.if-bound-out.true))) (omega (arith, c.if-next-m.false, w.if-m-next.false))
    ]
    in
    rw l.invariant.3 (walk_done w (omega arith) c.if-depth-eq0.true)

pub returns-then-steps-limit : goal.returns-then-steps-limit
returns-then-steps-limit c =
    let a = c.args in
    let l = c.choices in
    let e = c.requires.excess_is in
    let t = c.requires.twins_are in
    let v : Looked (job a.demands a.affinity a.n a.m a.h a.limit)
    (locals l.path l.loads l.out l.best l.rejected l.bound l.steps l.depth l.next) c.if-next-m.c true =
    elim c.if-next-m.branch [
      | then-next-m+else-not-is_tried w ↦
          rw w.c-is (core_taken l.invariant.0 w.if-next-m.true t e l.invariant.4 w.is_tried.ensures w.if-not-is_tried.false)
      | else-next-m+else-m-next+else-bound-out w ↦
          rw w.c-is (none_looked l.invariant.0 w.if-next-m.false w.if-m-next.false e l.invariant.4 (lt-leb _ _ w.if-bound-out.false))
    ]
    in
    stops v c.if-steps-limit.true

pub returns-then-bound-excess : goal.returns-then-bound-excess
returns-then-bound-excess c =
    let a = c.args in
    let l = c.choices in
    let p = c.with_choice-path.result in
    let r = l.out + c.pick.result in
    let v = entering c.before.before.before.before.before in
    let w : Walking (job a.demands a.affinity a.n a.m a.h a.limit) (locals p l.loads l.out p r r (l.steps + 1) l.depth (a.m + 1)) =
    stores v c.if-steps-limit.false (omega (arith, c.if-depth-deepest.false))
    (rw (depth_byte v.state) at c.with_choice-path.ensures) c.pick.ensures
    in
    rw l.invariant.3 (walk_over w c.requires.excess_is c.if-bound-excess.true)
