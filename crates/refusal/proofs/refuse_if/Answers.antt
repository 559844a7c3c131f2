-- `refuse_if` is the definition, case by case.
use Rattle.refusal.specs.Tests.{refuse_if}
use Rattle.refusal.proofs.refuse_if.Goals as goal

pub returns-then-condition : goal.returns-then-condition
unfolding refuse_if
returns-then-condition c = rw c.if-condition.true

pub returns-else-condition : goal.returns-else-condition
unfolding refuse_if
returns-else-condition c = rw c.if-condition.false
