-- The bytes stand in the place of as many others.
use Rattle.wire.proofs.LentLaws.{over_part}
use borrow.Author.Rules.{rules}
use Rattle.packing.proofs.put_bytes.Goals as goal

pub returns : goal.returns
returns c = search (rules, over_part)
