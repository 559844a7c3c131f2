-- The first bad budget gives the place.
use borrow.Author.Rules.{rules}
use Rattle.refusal.specs.declared.Cause.TheVariants.{Budget}
use Rattle.fields.specs.Tests.{bad_budget}
use Rattle.limits.proofs.budgets_test.Goals as goal

pub returns : goal.returns
returns c = c.refuse_at.ensures _ Budget (c.first.ensures (bad_budget c.args.f) (λ k x h e. search rules)) (λ x e. search rules)
