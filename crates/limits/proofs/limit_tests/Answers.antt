-- The tests are made in their order.
use borrow.Author.Rules.{rules}
use Rattle.refusal.specs.Tests.{in_order, ◌then◌}
use Rattle.limits.proofs.limit_tests.Goals as goal

pub returns-in_err-charge_test : goal.returns-in_err-charge_test
unfolding in_order ◌then◌
returns-in_err-charge_test c = search rules

pub returns-in_err-periods_test : goal.returns-in_err-periods_test
unfolding in_order ◌then◌
returns-in_err-periods_test c = search rules

pub returns-in_err-budgets_test : goal.returns-in_err-budgets_test
unfolding in_order ◌then◌
returns-in_err-budgets_test c = search rules

pub returns-in_err-costs_test : goal.returns-in_err-costs_test
unfolding in_order ◌then◌
returns-in_err-costs_test c = search rules

pub returns-in_err-row_test : goal.returns-in_err-row_test
unfolding in_order ◌then◌
returns-in_err-row_test c = search rules

pub returns-in_err-affinity_test : goal.returns-in_err-affinity_test
unfolding in_order ◌then◌
returns-in_err-affinity_test c = search rules

pub returns : goal.returns
unfolding in_order ◌then◌
returns c = search rules
