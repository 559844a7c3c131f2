-- The first line, and a line for each task.
use Rattle.listing.proofs.LineLaws.{table_made}
use borrow.Author.Rules.{rules}
use Rattle.listing.proofs.append_table.Goals as goal

pub returns : goal.returns
returns c = search (rules, table_made)
