-- Number and place, the sizes, the rows, a line feed.
use Rattle.caselines.proofs.LineLaws.{table_whole}
use borrow.Author.Rules.{rules}
use Rattle.caselines.proofs.tables.table_line.Goals as goal

pub returns : goal.returns
returns c = search (rules, table_whole)
