-- Number and place, two numbers, a line feed.
use Rattle.caselines.proofs.LineLaws.{tick_whole}
use borrow.Author.Rules.{rules}
use Rattle.caselines.proofs.cores.tick_line.Goals as goal

pub returns : goal.returns
returns c = search (rules, tick_whole)
