-- The tests are made in their order.
use borrow.Author.Rules.{rules}
use Rattle.refusal.specs.Tests.{◌then◌}
use Rattle.newform.proofs.front_tests.Goals as goal

pub returns-in_err-short_test : goal.returns-in_err-short_test
unfolding ◌then◌
returns-in_err-short_test c = search rules

pub returns : goal.returns
unfolding ◌then◌
returns c = search rules
