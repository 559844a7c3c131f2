-- The shape is tested, then the limits of the fields.
use mathlib.Core.Path.{◌∙◌, ap}
use Rattle.refusal.specs.Tests.{◌then◌, in_order}
use Rattle.fields.specs.Tests.{limit_tests}
use Rattle.taskset.specs.Reading.{reading_by}
use Rattle.form.specs.Shape.{form_outcome}
use Rattle.form.proofs.ShapeLaws.{shape_says}
use Rattle.form.proofs.read.Goals as goal

pub check_after-requires : goal.check_after-requires
check_after-requires c = shape_says _ _ _ _ c.shape_tests-shape.ensures

pub returns : goal.returns
unfolding form_outcome
returns c =
    let f = c.args.f in
    c.check_after.ensures ∙ ap (λ o. reading_by (o then in_order (limit_tests f)) f) c.shape_tests-shape.ensures
