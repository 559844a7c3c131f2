use borrow.Author.Rules.{rules}
use Rattle.affinity.proofs.PermittedLaws.{count_ones}
use Rattle.affinity.proofs.count.Goals as goal

-- src/lib.rt: u8::count_ones
pub returns : goal.returns
returns c = count_ones c.args.byte 8 (search rules)
