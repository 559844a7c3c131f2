-- The limit is the ceiling where that is a limit, and otherwise the largest.
use native.Mathlib.Omega.{arith}
use Rattle.snippets.proofs.ShownLaws.{within}
use Rattle.snippets.proofs.plan_within_ceiling.Goals as goal
use Rattle.snippets.proofs.plan_within_ceiling.Goals.{then-most-le4294967295, else-most-le4294967295}

pub returns : goal.returns
returns c =
    let said = within _ c.step_ceiling-most.ensures.answer c.step_ceiling-most.ensures.promise
    (elim c.if-most-le4294967295.branch [ then-most-le4294967295 w ↦ omega arith | else-most-le4294967295 w ↦ omega arith ]) c.plan-plan.ensures.answer in
    record { answer = said.0; unspent = said.1 }
