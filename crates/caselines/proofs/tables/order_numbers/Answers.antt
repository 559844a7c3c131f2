-- Each entry is a task's number.
use borrow.Author.Rules.{rules}
use Rattle.caselines.specs.Lines.{task_numbers}
use Rattle.caselines.proofs.OrderLaws.{number_small}
use Rattle.caselines.proofs.tables.order_numbers.Goals as goal

pub row-requires : goal.row-requires
row-requires c = (search rules, λ k h b. search (rules, number_small c.args.order k c.requires h))

pub returns : goal.returns
unfolding task_numbers
returns c = c.row.ensures _ (λ k x h e. search rules)
