-- The first bad period gives the place.
use borrow.Author.Rules.{rules}
use Rattle.refusal.specs.declared.Cause.TheVariants.{Period}
use Rattle.fields.specs.Tests.{bad_period}
use Rattle.limits.proofs.periods_test.Goals as goal

pub returns : goal.returns
returns c = c.refuse_at.ensures _ Period (c.first.ensures (bad_period c.args.f) (λ k x h e. search rules)) (λ x e. search rules)
