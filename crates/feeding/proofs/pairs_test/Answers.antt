-- The first pair that is none gives the place.
use mathlib.Core.Path.{◌∙◌, ap}
use borrow.Author.Rules.{rules}
use Rattle.numbers.specs.First.{first, found}
use Rattle.refusal.specs.declared.Cause.TheVariants.{Pair}
use Rattle.feeding.specs.Tests.{unfit_at}
use Rattle.feeding.proofs.pairs_test.Goals as goal

pub returns : goal.returns
unfolding unfit_at
returns c =
    let unfit = unfit_at c.args.f.n c.args.f.periods c.args.list.now in
    c.refuse_at.ensures _ Pair (c.first.ensures unfit (λ k x h e. search rules) ∙ ap (λ k. found (first unfit k)) c.count.ensures.0) (λ x e. search rules)
