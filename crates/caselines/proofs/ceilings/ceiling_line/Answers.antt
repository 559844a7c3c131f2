-- Number and place, the ceiling, a line feed.
use Rattle.caselines.proofs.LineLaws.{ceiling_whole}
use borrow.Author.Rules.{rules}
use Rattle.caselines.proofs.ceilings.ceiling_line.Goals as goal

pub returns : goal.returns
returns c = search (rules, ceiling_whole)
