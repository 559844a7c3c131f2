-- The order of the tasks, or the refusal of a test.
use Rattle.dependencies.proofs.PromiseLaws.{order_no, order_yes}
use borrow.Author.Rules.{rules}
use Rattle.dependencies.proofs.order_tasks.Goals as goal

pub returns-in-Err : goal.returns-in-Err
returns-in-Err c = search (rules, order_no)

pub returns-in-Ok : goal.returns-in-Ok
returns-in-Ok c =
    order_yes _ _ c.list_tests.ensures (search rules) c.requires
    c.relation_of.ensures c.task_order.ensures
