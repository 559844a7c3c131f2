-- Zeros beside the cause.
use Rattle.quick.specs.Quick.{refused_quick}
use borrow.Author.Rules.{rules}
use Rattle.quick.proofs.refused.Goals as goal

pub returns : goal.returns
unfolding refused_quick
returns c = search rules
