-- The task at which the multiple exceeds gives the place.
use borrow.Author.Rules.{rules}
use Rattle.refusal.specs.declared.Cause.TheVariants.{Hyperperiod}
use Rattle.hyperperiod.proofs.MultipleLaws.{multiple_place}
use Rattle.hyperperiod.proofs.hyperperiod_test.Goals as goal

pub returns : goal.returns
returns c = c.refuse_at.ensures _ Hyperperiod (multiple_place _ c.err.ensures.value c.common_multiple.ensures) (λ x e. search rules)
