-- The bytes are decoded, and their shape and limits are tested.
use mathlib.Core.Path.{◌∙◌, ap}
use Rattle.oldform.specs.Form.{old_fields, old_length}
use Rattle.oldform.specs.Limits.{old_outcome}
use Rattle.form.proofs.ShapeLaws.{form_read}
use Rattle.oldform.proofs.read_with.Goals as goal

pub returns : goal.returns
unfolding old_outcome
returns c =
    let size = c.size-n.ensures.0 ∙ c.byte.ensures in
    let s = c.args.s.now in
    form_read s {f = old_fields s c.args.charge c.args.affinity c.args.given} c.read.ensures c.short_test.ensures (ap old_length size) c.decode-f.ensures
