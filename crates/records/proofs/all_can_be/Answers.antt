-- The loop asks whether the test holds of no slot.
use mathlib.Core.Path.{refl}
use Rattle.numbers.proofs.FirstLaws.{clear_start, clear_next, clear_done}
use Rattle.edf.specs.Slots.{first_slot}
use Rattle.slots.proofs.ReadLaws.{tested}
use borrow.Author.Rules.{rules}
use Rattle.records.proofs.all_can_be.Goals as goal

pub loop-i-init : goal.loop-i-init
unfolding first_slot
loop-i-init c = search (rules, clear_start)

pub offset_bounds-slots-i : goal.offset_bounds-slots-i
unfolding first_slot
offset_bounds-slots-i c = search rules

pub bounds-slots-i : goal.bounds-slots-i
unfolding first_slot
bounds-slots-i c = search rules

pub cannot_be-requires : goal.cannot_be-requires
unfolding first_slot
cannot_be-requires c = search rules

pub loop-i-preserved : goal.loop-i-preserved
unfolding first_slot
loop-i-preserved c = clear_next c.loop-i.invariant {r = c.cannot_be.result} c.loop-i-test.true (search (rules, tested)) refl

pub returns : goal.returns
unfolding first_slot
returns c = search (rules, clear_done)
