-- Number and place, two numbers, the record, a line feed.
use Rattle.caselines.proofs.LineLaws.{record_whole}
use borrow.Author.Rules.{rules}
use Rattle.caselines.proofs.recordlines.record_line.Goals as goal

pub returns : goal.returns
returns c = search (rules, record_whole)
