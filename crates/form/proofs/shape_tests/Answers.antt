-- The tests are made in their order.
use borrow.Author.Rules.{rules}
use Rattle.refusal.specs.Tests.{◌then◌, in_order}
use Rattle.form.specs.Shape.{shape_outcome}
use Rattle.form.proofs.shape_tests.Goals as goal

pub returns-in_err-front : goal.returns-in_err-front
unfolding shape_outcome ◌then◌ in_order
returns-in_err-front c = search rules

pub returns-in_err-size_tests : goal.returns-in_err-size_tests
unfolding shape_outcome ◌then◌ in_order
returns-in_err-size_tests c = search rules

pub returns : goal.returns
unfolding shape_outcome ◌then◌ in_order
returns c = search rules
