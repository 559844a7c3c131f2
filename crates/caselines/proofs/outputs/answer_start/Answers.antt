-- Number and place, and the length.
use Rattle.caselines.proofs.PieceLaws.{start_whole}
use borrow.Author.Rules.{rules}
use Rattle.caselines.proofs.outputs.answer_start.Goals as goal

pub returns : goal.returns
returns c = search (rules, start_whole)
