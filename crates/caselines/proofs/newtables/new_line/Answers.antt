-- Number and place, the sizes and the charge, the rows, a line feed.
use Rattle.caselines.proofs.LineLaws.{new_whole}
use borrow.Author.Rules.{rules}
use Rattle.caselines.proofs.newtables.new_line.Goals as goal

pub returns : goal.returns
returns c = search (rules, new_whole)
