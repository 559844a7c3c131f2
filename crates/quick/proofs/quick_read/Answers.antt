-- An accepted table's tasks are planned.
use Rattle.quick.proofs.QuickLaws.{quick_refused, quick_accepted}
use borrow.Author.Rules.{rules}
use Rattle.quick.proofs.quick_read.Goals as goal

pub quick_tasks-requires : goal.quick_tasks-requires
quick_tasks-requires c = c.requires.checked (search rules)

pub returns-in-Err : goal.returns-in-Err
returns-in-Err c = search (rules, quick_refused)

pub returns-in-Ok : goal.returns-in-Ok
returns-in-Ok c = search (rules, quick_accepted)
