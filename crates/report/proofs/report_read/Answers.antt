-- The reader's refusal is printed alone; an accepted table is planned, and its plan is no refusal.
use Rattle.taskset.proofs.ReadingLaws.{reading_checked, reading_few}
use Rattle.report.proofs.OutputLaws.{never_refused, read_refused, read_planned}
use borrow.Author.Rules.{rules}
use Rattle.report.proofs.report_read.Goals as goal

pub returns-in_default : goal.returns-in_default
returns-in_default c = search (rules, read_refused)

pub plan_tasks-plan-requires : goal.plan_tasks-plan-requires
plan_tasks-plan-requires c = search (rules, reading_checked)

pub returns-in_default-verdict : goal.returns-in_default-verdict
returns-in_default-verdict c = absurd (search (rules, never_refused))

pub plan_report-requires : goal.plan_report-requires
plan_report-requires c = search (rules, reading_few)

pub returns : goal.returns
returns c = search (rules, read_planned)
