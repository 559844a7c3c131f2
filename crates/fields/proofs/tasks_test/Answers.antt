-- The test is the definition.
use mathlib.Core.Path.{◌∙◌, ap}
use Rattle.refusal.specs.Tests.{refuse_if}
use Rattle.refusal.specs.declared.Cause.TheVariants.{TaskCount}
use Rattle.fields.proofs.tasks_test.Goals as goal

pub returns : goal.returns
returns c = c.refuse_if.ensures ∙ ap (λ b. refuse_if b TaskCount) c.outside.ensures
