-- The byte is that of the pair.
use borrow.Author.Rules.{rules}
use Rattle.pairs.proofs.feeding.Goals as goal
use Rattle.pairs.specs.Pairs.{feeding}

pub returns : goal.returns
unfolding feeding
returns c = search rules
