-- The test is the definition.
use borrow.Author.Rules.{rules}
use Rattle.pairs.specs.Pairs.{malformed}
use Rattle.pairs.proofs.list_test.Goals as goal

pub returns : goal.returns
unfolding malformed
returns c = search rules
