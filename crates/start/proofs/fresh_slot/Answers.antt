-- The slot, by the test.
use borrow.Author.Tests.{eq-eqb, ne_eqb}
use Rattle.start.proofs.fresh_slot.Goals as goal

pub returns-then-placed-core : goal.returns-then-placed-core
returns-then-placed-core c = simp (eq-eqb _ _ c.if-placed-core.true)

pub returns-else-placed-core : goal.returns-else-placed-core
returns-else-placed-core c = simp (ne_eqb _ _ c.if-placed-core.false) c.empty.ensures
