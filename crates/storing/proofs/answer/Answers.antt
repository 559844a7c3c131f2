-- The answer is the definition, case by case.
use mathlib.Core.Path.{sym, ap}
use Rattle.refusal.specs.Tests.{by_outcome}
use Rattle.storing.specs.Lent.{transfer_by}
use Rattle.storing.proofs.answer.Goals as goal

pub returns-in-Err : goal.returns-in-Err
unfolding transfer_by by_outcome
returns-in-Err c = rw c.in-Err.is

pub returns-in-Ok : goal.returns-in-Ok
unfolding transfer_by by_outcome
returns-in-Ok c = sym (ap (λ o. transfer_by o c.args.size) c.in-Ok.is)
