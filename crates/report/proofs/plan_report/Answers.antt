-- The table's lines and the last line: in all less than a text holds.
use Rattle.report.proofs.OutputLaws.{plan_whole}
use borrow.Author.Rules.{rules}
use Rattle.report.proofs.plan_report.Goals as goal

pub returns : goal.returns
returns c = search (rules, plan_whole)
