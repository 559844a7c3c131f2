-- A refusal of the earlier tests stands; otherwise the limits are tested.
use Rattle.taskset.proofs.ReadingLaws.{after_refused, after_accepted}
use borrow.Author.Rules.{rules}
use Rattle.taskset.proofs.check_after.Goals as goal

pub check_limits-requires : goal.check_limits-requires
check_limits-requires c = c.requires (search rules)

pub returns-in-Err : goal.returns-in-Err
returns-in-Err c = search (rules, after_refused)

pub returns-in-Ok : goal.returns-in-Ok
returns-in-Ok c = search (rules, after_accepted)
