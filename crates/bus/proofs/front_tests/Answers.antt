-- The tests are made in their order.
use borrow.Author.Rules.{rules}
use Rattle.refusal.specs.Tests.{in_order, ◌then◌}
use Rattle.bus.proofs.front_tests.Goals as goal

pub returns-in_err-shape : goal.returns-in_err-shape
unfolding in_order ◌then◌
returns-in_err-shape c = search rules

pub returns-in_err-charge_test : goal.returns-in_err-charge_test
unfolding in_order ◌then◌
returns-in_err-charge_test c = search rules

pub returns-in_err-periods_test : goal.returns-in_err-periods_test
unfolding in_order ◌then◌
returns-in_err-periods_test c = search rules

pub returns : goal.returns
unfolding in_order ◌then◌
returns c = search rules
