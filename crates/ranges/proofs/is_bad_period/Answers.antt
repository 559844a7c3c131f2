-- The test is the definition.
use Rattle.fields.specs.Tests.{bad_period}
use borrow.Author.Rules.{rules}
use Rattle.ranges.proofs.is_bad_period.Goals as goal

pub returns : goal.returns
unfolding bad_period
returns c = search rules
