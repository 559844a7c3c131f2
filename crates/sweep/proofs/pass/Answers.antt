-- What holds after each slot of a part of the pass: an empty slot, one that is due, and one that is not.
use Prim.Native.Nat.{◌+◌}
use mathlib.Core.Path.{◌≡◌, ◌∙◌}
use lib.ListN.{set}
use Rattle.slots.specs.SoFar.{choice_so_far}
use Rattle.sweep.proofs.SweepLaws.{still_more, pass_empty, pass_cost, pass_due, pass_kept, pass_done}
use Rattle.sweep.proofs.pass.Goals as goal
use Rattle.sweep.proofs.pass.Goals.{then-s-ne0, then-s-eq0, else-s-eq0, else-s-ne0}

pub loop-done-init : goal.loop-done-init
loop-done-init c = record { record_before = c.requires.0; holds = c.requires.1; each = λ slots p. p }

pub released-ready-requires : goal.released-ready-requires
released-ready-requires c = pass_cost c.loop-done.invariant.holds c.loop-done-test.true _ c.if-s-ne0.true

pub loop-done-preserved : goal.loop-done-preserved
loop-done-preserved c =
    let now = c.loop-done in
    let h = c.loop-done-test.true in
    still_more now.invariant (λ slots p. elim c.if-s-ne0.branch [
      | then-s-ne0 w ↦
          let next : c.if-s-ne0.next ≡ set now.next now.done w.advanced.result = w.next-is in
          let choice : c.if-s-ne0.choice ≡ choice_so_far now.choice (now.done + 1) w.if-s-eq0.ready = w.choice-is ∙ w.choice_so_far-choice.ensures in
          elim w.if-s-eq0.branch [
            | then-s-eq0 n ↦
                pass_due p h _ w.if-s-ne0.true next w.advanced.ensures choice n.if-s-eq0.true
                (n.ready-is ∙ n.released-ready.ensures) (w.late-is ∙ n.late-is ∙ n.late_so_far-late.ensures)
            | else-s-eq0 n ↦ pass_kept p h _ w.if-s-ne0.true next w.advanced.ensures choice n.if-s-eq0.false n.ready-is (w.late-is ∙ n.late-is)
          ]
      | else-s-ne0 w ↦ pass_empty p h _ w.if-s-ne0.false w.next-is w.late-is w.choice-is
    ])

pub returns : goal.returns
returns c slots p = pass_done (c.loop-done.invariant.each slots p) c.loop-done-test.false
