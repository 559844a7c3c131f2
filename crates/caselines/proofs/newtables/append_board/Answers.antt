-- Four numbers.
use Rattle.caselines.proofs.LineLaws.{board-made}
use Rattle.caselines.proofs.newtables.append_board.Goals as goal

pub returns : goal.returns
returns c =
    board-made c.args.t c.append_field-n.ensures c.append_field-m.ensures (rw c.from.ensures at c.append_field-charge.ensures)
    (rw c.from-2.ensures at c.append_field.ensures)
