-- The branch taken is that of the test.
use borrow.Author.Rules.{rules}
use borrow.Author.Tests.{eq-eqb, ne_eqb}
use Rattle.allocation.specs.Walk.{tried_by}
use Rattle.branch.proofs.tried_by.Goals as goal

pub overflow_add-result : goal.overflow_add-result
unfolding tried_by
overflow_add-result c = search rules

pub returns-then-c-eq0 : goal.returns-then-c-eq0
unfolding tried_by
returns-then-c-eq0 c = simp (eq-eqb _ _ c.if-c-eq0.true)

pub returns-else-c-eq0 : goal.returns-else-c-eq0
unfolding tried_by
returns-else-c-eq0 c = simp (ne_eqb _ _ c.if-c-eq0.false)
