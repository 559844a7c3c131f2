-- The first task that the closed cells put on a circle.
use mathlib.Core.Path.{refl, ◌∙◌, ap}
use borrow.Author.Rules.{rules}
use Rattle.numbers.specs.First.{found}
use Rattle.relation.proofs.CellLaws.{circle_at, circle_here, circle_first}
use Rattle.relation.proofs.circle_task.Goals as goal

pub returns : goal.returns
returns c =
    c.first.ensures (circle_at c.closure-reached.result) (λ k x h e. circle_here _ k (search rules))
    ∙ ap found (circle_first _ c.closure-reached.ensures c.requires refl)
