-- The table's lines, the last line: in all less than a text holds.
use Rattle.quickreport.proofs.OutputLaws.{plan_whole}
use borrow.Author.Rules.{rules}
use Rattle.quickreport.proofs.plan_report.Goals as goal

pub returns : goal.returns
returns c = search (rules, plan_whole)
