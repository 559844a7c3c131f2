-- The cell of the pair is set, if there is one.
use native.Mathlib.Omega.{arith}
use borrow.Author.Rules.{rules}
use Rattle.relation.proofs.CellLaws.{pair_past, pair_set}
use Rattle.relation.proofs.with_pair.Goals as goal

pub returns-then-b-le16 : goal.returns-then-b-le16
returns-then-b-le16 c = pair_set _ c.args.a c.args.b (search rules) (omega arith) (omega arith)

pub returns-else-a-le16 : goal.returns-else-a-le16
returns-else-a-le16 c = pair_past _ c.args.a c.args.b (search rules) c.else-a-le16.either
