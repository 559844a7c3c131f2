-- Zeros, or number and place of the cause.
use Rattle.caselines.proofs.LineLaws.{outcome_accepted, outcome_refused}
use borrow.Author.Rules.{rules}
use Rattle.caselines.proofs.lines.append_outcome.Goals as goal

pub returns-in-Ok : goal.returns-in-Ok
returns-in-Ok c = search (rules, outcome_accepted)

pub returns-in-Err : goal.returns-in-Err
returns-in-Err c = search (rules, outcome_refused)
