-- Three numbers.
use Rattle.caselines.proofs.LineLaws.{sizes-made}
use Rattle.caselines.proofs.tables.append_sizes.Goals as goal

pub returns : goal.returns
returns c = sizes-made c.args.t c.append_field-n.ensures c.append_field-m.ensures (rw c.from.ensures at c.append_field.ensures)
