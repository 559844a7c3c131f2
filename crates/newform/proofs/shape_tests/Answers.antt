-- The tests are joined in their order.
use mathlib.Core.Path.{◌∙◌}
use Rattle.newform.proofs.NewLaws.{new_shaped}
use Rattle.newform.proofs.shape_tests.Goals as goal

pub returns : goal.returns
returns c = new_shaped _ _ c.shape_tests.ensures c.front_tests.ensures (c.size-n.ensures.0 ∙ c.byte.ensures)
