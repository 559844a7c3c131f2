-- The tests are made in their order.
use borrow.Author.Rules.{rules}
use Rattle.refusal.specs.Tests.{in_order, ◌then◌}
use Rattle.placing.specs.Tests.{placing_outcome}
use Rattle.placing.proofs.placing_tests.Goals as goal

pub returns-in_err-places_test : goal.returns-in_err-places_test
unfolding placing_outcome in_order ◌then◌
returns-in_err-places_test c = search rules

pub returns-in_err-entries_test : goal.returns-in_err-entries_test
unfolding placing_outcome in_order ◌then◌
returns-in_err-entries_test c = search rules

pub returns-in_err-permitted_test : goal.returns-in_err-permitted_test
unfolding placing_outcome in_order ◌then◌
returns-in_err-permitted_test c = search rules

pub returns-in_err-core_test : goal.returns-in_err-core_test
unfolding placing_outcome in_order ◌then◌
returns-in_err-core_test c = search rules

pub returns : goal.returns
unfolding placing_outcome in_order ◌then◌
returns c = search rules
