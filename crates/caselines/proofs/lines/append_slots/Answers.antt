-- A slot more each turn.
use Rattle.decimal.proofs.JoinLaws.{join_start, join_next, join_done}
use borrow.Author.Rules.{rules}
use Rattle.caselines.proofs.lines.append_slots.Goals as goal

pub loop-s-init : goal.loop-s-init
loop-s-init c = search (rules, join_start)

pub loop-s-preserved : goal.loop-s-preserved
loop-s-preserved c = search (rules, join_next)

pub returns : goal.returns
returns c = search (rules, join_done)
