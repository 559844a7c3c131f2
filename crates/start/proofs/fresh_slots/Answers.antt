-- Slot k is that of task k, the slots beyond n are all zeros.
use mathlib.Core.Path.{◌∙◌, ap}
use borrow.Author.Rules.{rules}
use Rattle.numbers.specs.Rows.{row}
use Rattle.edf.specs.Fresh.{fresh_slot, fresh_slots}
use Rattle.start.specs.Starts.{placed_tasks}
use Rattle.start.proofs.fresh_slots.Goals as goal

pub returns : goal.returns
unfolding fresh_slot fresh_slots
returns c =
    let slot = fresh_slot (placed_tasks c.args.f c.args.placement.now) c.args.core in
    c.row.ensures slot (λ k x h e. search rules) ∙ ap (λ z. row z c.args.f.n slot) c.empty.ensures
