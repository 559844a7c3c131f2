-- The room is tested behind the tests before.
use borrow.Author.Rules.{rules}
use Rattle.refusal.specs.Tests.{◌then◌}
use Rattle.storing.proofs.room_after.Goals as goal

pub returns-in_err-before : goal.returns-in_err-before
unfolding ◌then◌
returns-in_err-before c = search rules

pub returns : goal.returns
unfolding ◌then◌
returns c = search rules
