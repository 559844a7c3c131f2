-- The first task on a core that is not permitted gives the place.
use borrow.Author.Rules.{rules}
use Rattle.refusal.specs.declared.Cause.TheVariants.{NotPermitted}
use Rattle.entries.specs.Tests.{barred_at}
use Rattle.entries.proofs.permitted_test.Goals as goal

pub returns : goal.returns
unfolding barred_at
returns c = c.refuse_at.ensures _ NotPermitted (c.first.ensures (barred_at c.args.f c.args.placement.now) (λ k x h e. search rules)) (λ x e. search rules)
