-- The test is the definition.
use Rattle.fields.specs.Tests.{bad_affinity}
use borrow.Author.Rules.{rules}
use Rattle.ranges.proofs.is_bad_affinity.Goals as goal

pub returns : goal.returns
unfolding bad_affinity
returns c = search rules
