-- The test is the definition.
use Rattle.fields.specs.Tests.{bad_budget}
use borrow.Author.Rules.{rules}
use Rattle.ranges.proofs.is_bad_budget.Goals as goal

pub returns : goal.returns
unfolding bad_budget
returns c = search rules
