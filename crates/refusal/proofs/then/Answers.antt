-- `then` is the definition, case by case.
use borrow.Author.Rules.{rules}
use mathlib.Core.Path.{refl}
use Rattle.refusal.specs.Tests.{◌then◌}
use Rattle.refusal.proofs.then.Goals as goal

pub returns-in_err-first : goal.returns-in_err-first
unfolding ◌then◌
returns-in_err-first c = rw c.in_err-first.was (search rules)

pub returns : goal.returns
unfolding ◌then◌
returns c = rw c.in_ok-first.was refl
