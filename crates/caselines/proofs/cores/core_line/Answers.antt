-- Number and place, the record, a line feed.
use Rattle.caselines.proofs.LineLaws.{core_whole}
use borrow.Author.Rules.{rules}
use Rattle.caselines.proofs.cores.core_line.Goals as goal

pub returns : goal.returns
returns c = search (rules, core_whole)
