-- The first bad cost gives the place.
use borrow.Author.Rules.{rules}
use Rattle.refusal.specs.declared.Cause.TheVariants.{Cost}
use Rattle.fields.specs.Tests.{bad_cost}
use Rattle.limits.proofs.costs_test.Goals as goal

pub returns : goal.returns
returns c = c.refuse_at.ensures _ Cost (c.first.ensures (bad_cost c.args.f) (λ k x h e. search rules)) (λ x e. search rules)
