-- Four rows.
use Rattle.decimal.proofs.JoinLaws.{as_itself}
use Rattle.caselines.proofs.OrderLaws.{order_listed}
use Rattle.caselines.proofs.LineLaws.{tasks-made}
use borrow.Author.Rules.{rules}
use Rattle.caselines.proofs.tables.append_tasks.Goals as goal

pub order_numbers-numbers-requires : goal.order_numbers-numbers-requires
order_numbers-numbers-requires c = search (rules, order_listed)

pub returns : goal.returns
returns c =
    tasks-made c.args.t c.planning_order-order.ensures.answer c.order_numbers-numbers.ensures (c.append_row-p.ensures (λ x. x) as_itself)
    (c.append_row-b.ensures (λ x. x) as_itself) (c.append_row-d.ensures (λ x. x) as_itself) (c.append_row.ensures (λ x. x) as_itself)
