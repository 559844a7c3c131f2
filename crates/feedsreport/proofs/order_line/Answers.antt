-- The first number, those behind it, a line feed.
use Rattle.decimal.proofs.JoinLaws.{as_itself}
use Rattle.feedsreport.proofs.LineLaws.{order-made}
use borrow.Author.Rules.{rules}
use Rattle.feedsreport.proofs.order_line.Goals as goal

pub returns : goal.returns
returns c =
    search (rules, order-made, rw c.from.ensures at c.append_decimal-first.ensures, c.append_numbers-tasks.ensures (λ x. x) as_itself)
