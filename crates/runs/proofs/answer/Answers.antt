-- The answer is the definition, case by case.
use mathlib.Core.Path.{sym, ap}
use Rattle.refusal.specs.Tests.{by_outcome}
use Rattle.runs.specs.Lent.{logged_by}
use Rattle.runs.proofs.answer.Goals as goal

pub returns-in-Err : goal.returns-in-Err
unfolding logged_by by_outcome
returns-in-Err c = rw c.in-Err.is

pub returns-in-Ok : goal.returns-in-Ok
unfolding logged_by by_outcome
returns-in-Ok c = sym (ap (λ o. logged_by o c.args.count) c.in-Ok.is)
