-- The choice, by its tests.
use Rattle.slots.proofs.SlotLaws.{choice_new, choice_kept, choice_idle}
use Rattle.slots.proofs.choice_so_far.Goals as goal

pub returns-then-best-s : goal.returns-then-best-s
returns-then-best-s c =
    let a = c.args in
    choice_new a.best a.number a.s c.if-s-gt0.true c.if-best-s.true

pub returns-else-best-s : goal.returns-else-best-s
returns-else-best-s c =
    let a = c.args in
    choice_kept a.best a.number a.s c.if-s-gt0.true c.if-best-s.false

pub returns-else-s-gt0 : goal.returns-else-s-gt0
returns-else-s-gt0 c = let a = c.args in choice_idle a.best a.number a.s c.if-s-gt0.false
