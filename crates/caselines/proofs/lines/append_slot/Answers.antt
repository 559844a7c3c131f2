-- Four numbers.
use Rattle.decimal.proofs.JoinLaws.{as_itself}
use Rattle.caselines.proofs.LineLaws.{slot-made}
use Rattle.caselines.proofs.lines.append_slot.Goals as goal

pub returns : goal.returns
returns c = slot-made c.args.s (c.append_numbers.ensures (λ x. x) as_itself)
