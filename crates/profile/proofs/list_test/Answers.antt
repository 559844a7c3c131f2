-- The first task whose period is not in the list gives the place.
use borrow.Author.Rules.{rules}
use Rattle.refusal.specs.declared.Cause.TheVariants.{BusPeriod}
use Rattle.profile.specs.Tests.{unlisted}
use Rattle.profile.proofs.list_test.Goals as goal

pub returns : goal.returns
unfolding unlisted
returns c = c.refuse_at.ensures _ BusPeriod (c.first.ensures (unlisted c.args.f) (λ k x h e. search rules)) (λ x e. search rules)
