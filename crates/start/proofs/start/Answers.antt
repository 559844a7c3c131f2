-- The fresh record, or the refusal of a test.
use Rattle.start.proofs.StartLaws.{start_no, start_yes}
use borrow.Author.Rules.{rules}
use Rattle.start.proofs.start.Goals as goal

pub returns-in-Err : goal.returns-in-Err
returns-in-Err c = search (rules, start_no)

pub returns-in-Ok : goal.returns-in-Ok
returns-in-Ok c = search (rules, start_yes)
