-- None where the answer is a refusal, and else all.
use mathlib.Core.Path.{refl}
use Rattle.refusal.specs.Tests.{by_outcome}
use Rattle.replay.specs.Tests.{to_paint}
use Rattle.replay.proofs.to_paint.Goals as goal

pub returns-in-Err : goal.returns-in-Err
unfolding to_paint by_outcome
returns-in-Err c = rw c.in-Err.is refl

pub returns-in-Ok : goal.returns-in-Ok
unfolding to_paint by_outcome
returns-in-Ok c = rw c.in-Ok.is refl
