-- The tests are made in their order.
use borrow.Author.Rules.{rules}
use Rattle.refusal.specs.Tests.{in_order, ◌then◌}
use Rattle.fields.proofs.size_tests.Goals as goal

pub returns-in_err-tasks_test : goal.returns-in_err-tasks_test
unfolding in_order ◌then◌
returns-in_err-tasks_test c = search rules

pub returns : goal.returns
unfolding in_order ◌then◌
returns c = search rules
