-- Four numbers.
use Rattle.caseblocks.proofs.BlockLaws.{slot_read}
use borrow.Author.Rules.{rules}
use Rattle.caseblocks.proofs.slot_in.Goals as goal

pub returns : goal.returns
returns c = search (rules, slot_read)
