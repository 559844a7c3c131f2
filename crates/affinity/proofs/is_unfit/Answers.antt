use borrow.Author.Rules.{rules}
use Rattle.affinity.specs.Permitted.{unfit}
use Rattle.affinity.proofs.is_unfit.Goals as goal

pub returns : goal.returns
unfolding unfit
returns c = search rules
