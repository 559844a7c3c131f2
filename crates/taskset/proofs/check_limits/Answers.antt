-- The answer goes by the outcome of the tests.
use Rattle.taskset.proofs.ReadingLaws.{limits_say, by_refused, by_accepted}
use borrow.Author.Rules.{rules}
use Rattle.taskset.proofs.check_limits.Goals as goal

pub accepted-requires : goal.accepted-requires
accepted-requires c = search (rules, limits_say)

pub returns-in-Err : goal.returns-in-Err
returns-in-Err c = search (rules, by_refused)

pub returns-in-Ok : goal.returns-in-Ok
returns-in-Ok c = search (rules, by_accepted)
