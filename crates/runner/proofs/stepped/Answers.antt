-- The pass, then the task that runs.
use mathlib.Core.Path.{◌≡◌, refl, ap, ◌∙◌}
use lib.ListN.{length, length-map}
use borrow.Author.Rules.{rules}
use Rattle.edf.specs.Slots.{each}
use Rattle.edf.specs.Tick.{run as run_slot}
use Rattle.runner.proofs.TickLaws.{stepped_by, run_last}
use Rattle.sweep.proofs.SweepLaws.{swept_late, swept_run, swept_slots, swept_bound}
use Rattle.runner.proofs.stepped.Goals as goal

pub sweep-swept-requires : goal.sweep-swept-requires
sweep-swept-requires c = c.requires.slots_can_be

pub after_run-next-requires : goal.after_run-next-requires
after_run-next-requires c =
    let size : length c.args.core.slots ≡ 16 = search rules in
    swept_bound size c.sweep-swept.ensures

pub returns : goal.returns
returns c =
    let size : length c.args.core.slots ≡ 16 = search rules in
    let swept = c.sweep-swept.ensures in
    let next = c.after_run-next.ensures ∙ ap (each (run_slot _)) (swept_slots size swept) ∙ run_last _ _ in
    record {
      answer = stepped_by _ _ _ _ _ _ (swept_late size swept) (swept_run size swept) next;
      outcome = refl;
    }
