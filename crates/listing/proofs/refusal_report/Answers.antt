-- That line fits a text.
use Rattle.listing.proofs.PrintedLaws.{none-printed, refusal_printed}
use borrow.Author.Rules.{rules}
use Rattle.listing.proofs.refusal_report.Goals as goal

pub returns-in-Ok : goal.returns-in-Ok
returns-in-Ok c = search (rules, none-printed)

pub returns-in-Err : goal.returns-in-Err
returns-in-Err c = search (rules, refusal_printed)
