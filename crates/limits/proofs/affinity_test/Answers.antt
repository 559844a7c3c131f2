-- The first bad affinity gives the place.
use borrow.Author.Rules.{rules}
use Rattle.refusal.specs.declared.Cause.TheVariants.{Affinity}
use Rattle.fields.specs.Tests.{bad_affinity}
use Rattle.limits.proofs.affinity_test.Goals as goal

pub returns : goal.returns
returns c = c.refuse_at.ensures _ Affinity (c.first.ensures (bad_affinity c.args.f) (λ k x h e. search rules)) (λ x e. search rules)
