-- The byte is that of the pair.
use borrow.Author.Rules.{rules}
use Rattle.pairs.specs.Pairs.{fed}
use Rattle.pairs.proofs.fed.Goals as goal

pub returns : goal.returns
unfolding fed
returns c = search rules
