-- The loop asks whether the test holds of no slot.
use Rattle.numbers.proofs.FirstLaws.{Clearing}
use Rattle.edf.specs.Slots.{slot_test, cannot_be}
use Rattle.records.proofs.all_can_be.Given as goal

abbrev pub invariant-loop-i : goal.invariant-loop-i
invariant-loop-i l = Clearing (slot_test (cannot_be l.charge) l.slots) 16 l.i l.good
