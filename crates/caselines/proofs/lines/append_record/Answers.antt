-- The charge, then the slots.
use Rattle.caselines.proofs.LineLaws.{record_made}
use Rattle.caselines.proofs.lines.append_record.Goals as goal

pub returns : goal.returns
returns c = record_made c.args.core (rw c.from.ensures at c.append_field-charge.ensures) c.append_slots.ensures
