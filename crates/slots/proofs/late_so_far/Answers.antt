-- The late task, by the test.
use Rattle.slots.proofs.SlotLaws.{late-new, late_kept}
use Rattle.slots.proofs.late_so_far.Goals as goal

pub returns-then-late-s : goal.returns-then-late-s
returns-then-late-s c = let a = c.args in late-new a.late a.number a.s c.if-late-s.true

pub returns-else-late-s : goal.returns-else-late-s
returns-else-late-s c = let a = c.args in late_kept a.late a.number a.s c.if-late-s.false
