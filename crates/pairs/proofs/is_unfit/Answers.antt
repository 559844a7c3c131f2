-- The test is the definition.
use borrow.Author.Rules.{rules}
use Rattle.pairs.specs.Pairs.{multiple, unfit}
use Rattle.pairs.proofs.is_unfit.Goals as goal

pub returns : goal.returns
unfolding multiple unfit
returns c = search rules
