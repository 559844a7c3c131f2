-- The reader's refusal is printed alone; an accepted table is planned, and its plan is no refusal.
use Rattle.taskset.proofs.ReadingLaws.{reading_checked, reading_few}
use Rattle.newform.proofs.NewLaws.{new_sound}
use Rattle.listing.proofs.PrintedLaws.{printed_refused, printed_planned, plan_printed}
use Rattle.quick.specs.Quick.{quick_for}
use Rattle.quickreport.specs.Output.{quick_lines}
use Rattle.quickreport.proofs.OutputLaws.{never_refused, output_all}
use borrow.Author.Rules.{rules}
use Rattle.quickreport.proofs.report.Goals as goal

pub returns-in_default : goal.returns-in_default
returns-in_default c =
    let said = output_all (new_sound _) (search (rules, printed_refused)) in
    record { answer = said.0; reported = said.1.0; read_back = said.1.1 }

pub quick_tasks-plan-requires : goal.quick_tasks-plan-requires
quick_tasks-plan-requires c = search (rules, reading_checked)

pub returns-in_default-answer : goal.returns-in_default-answer
returns-in_default-answer c = absurd (search (rules, never_refused))

pub plan_report-requires : goal.plan_report-requires
plan_report-requires c = search (rules, reading_few)

pub returns : goal.returns
returns c =
    let said = output_all (new_sound _) (search (rules, printed_planned, plan_printed quick_lines quick_for)) in
    record { answer = said.0; reported = said.1.0; read_back = said.1.1 }
