-- A refusal is printed alone; an accepted list has as many tasks as byte 1 of its table says.
use Rattle.feedsreport.proofs.OutputLaws.{output_refused, tasks_some, tasks_few, output_tasks}
use borrow.Author.Rules.{rules}
use Rattle.feedsreport.proofs.order_report.Goals as goal

pub returns-in_default : goal.returns-in_default
returns-in_default c = search (rules, output_refused)

pub order_line-requires : goal.order_line-requires
order_line-requires c = search (rules, tasks_some, tasks_few)

pub returns : goal.returns
returns c = search (rules, output_tasks)
