-- The tests are made in their order.
use borrow.Author.Rules.{rules}
use Rattle.refusal.specs.Tests.{in_order, ◌then◌}
use Rattle.feeding.proofs.list_tests.Goals as goal

pub returns-in_err-list_test : goal.returns-in_err-list_test
unfolding in_order ◌then◌
returns-in_err-list_test c = search rules

pub returns-in_err-pairs_test : goal.returns-in_err-pairs_test
unfolding in_order ◌then◌
returns-in_err-pairs_test c = search rules

pub returns : goal.returns
unfolding in_order ◌then◌
returns c = search rules
