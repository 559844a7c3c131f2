-- The first task on a circle gives the place.
use mathlib.Core.Path.{refl, ◌∙◌, ap}
use borrow.Author.Rules.{rules}
use Rattle.numbers.specs.First.{found}
use Rattle.refusal.specs.declared.Cause.TheVariants.{Circle}
use Rattle.feeding.proofs.ListLaws.{circle_same}
use Rattle.feeding.proofs.circle_test.Goals as goal

pub returns : goal.returns
returns c =
    c.refuse_at.ensures _ Circle (c.circle_task.ensures ∙ ap found (circle_same _ _ c.requires c.relation_of.ensures refl)) (λ x e. search rules)
