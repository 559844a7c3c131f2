-- The test is the definition.
use Rattle.fields.specs.Tests.{bad_cost}
use Rattle.ranges.proofs.is_bad_cost.Goals as goal

pub returns : goal.returns
unfolding bad_cost
returns c = rw c.sum.ensures
