-- Six numbers.
use mathlib.Core.Path.{◌∙◌}
use Rattle.listing.proofs.LineLaws.{task_made}
use Rattle.listing.proofs.append_task.Goals as goal

pub returns : goal.returns
returns c =
    task_made _ _ _ _ _ c.append_decimal-number.ensures (rw c.from.ensures at c.append_field-p.ensures)
    (rw c.from-2.ensures at c.append_field-b.ensures) (rw c.from-3.ensures at c.append_field-c.ensures)
    (c.from-4.ensures ∙ c.count.ensures) c.append_field-count.ensures
    (c.from-5.ensures ∙ c.lowest.ensures) c.append_field-lowest.ensures c.append_bytes.ensures
