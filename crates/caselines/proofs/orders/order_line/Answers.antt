-- Number and place, the tasks in their order, a line feed.
use borrow.Author.Rules.{rules}
use Rattle.decimal.proofs.JoinLaws.{as_itself}
use Rattle.caselines.proofs.LineLaws.{order_whole}
use Rattle.caselines.proofs.orders.order_line.Goals as goal

pub returns : goal.returns
returns c = search (rules, order_whole, c.append_row-tasks.ensures (λ x. x) as_itself)
