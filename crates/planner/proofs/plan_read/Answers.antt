-- An accepted table's tasks are planned.
use Rattle.planner.proofs.PlanLaws.{plan_refused, plan_accepted}
use borrow.Author.Rules.{rules}
use Rattle.planner.proofs.plan_read.Goals as goal

pub plan_tasks-requires : goal.plan_tasks-requires
plan_tasks-requires c = c.requires.checked (search rules)

pub returns-in-Err : goal.returns-in-Err
returns-in-Err c = search (rules, plan_refused)

pub returns-in-Ok : goal.returns-in-Ok
returns-in-Ok c = search (rules, plan_accepted)
