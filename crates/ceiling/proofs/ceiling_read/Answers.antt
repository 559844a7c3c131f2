-- An accepted table's tasks have the ceiling.
use borrow.Author.Rules.{rules}
use Rattle.ceiling.proofs.PromiseLaws.{ceiling_refused, ceiling_accepted}
use Rattle.ceiling.proofs.ceiling_read.Goals as goal

pub ceiling_of-requires : goal.ceiling_of-requires
ceiling_of-requires c = c.requires.checked (search rules)

pub returns-in-Err : goal.returns-in-Err
returns-in-Err c = search (rules, ceiling_refused)

pub returns-in-Ok : goal.returns-in-Ok
returns-in-Ok c = search (rules, ceiling_accepted)
