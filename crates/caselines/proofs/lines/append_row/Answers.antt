-- Sixteen numbers take sixteen times the room of one.
use native.Mathlib.Omega.{arith}
use Rattle.text.proofs.ClipLaws.{append_within}
use Rattle.caselines.proofs.lines.append_row.Goals as goal

pub returns : goal.returns
returns g c = λ f e. append_within 336 (c.append_numbers.ensures f e) (omega arith)
