-- The first core with room, by its number.
use borrow.Author.Rules.{rules}
use Rattle.numbers.proofs.FirstLaws.{number_found}
use Rattle.firstfit.specs.Fit.{holds}
use Rattle.firstfit.proofs.lowest_core.Goals as goal

pub returns : goal.returns
returns c =
    let a = c.args in
    number_found _ c.unwrap_or.ensures (c.first.ensures (holds a.loads a.byte a.d a.h) (λ k x h e. search rules))
