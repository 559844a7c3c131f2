-- The definition, case by case.
use Rattle.planner.proofs.PlanLaws.{verdict_spent, verdict_all, verdict_short}
use Rattle.planner.proofs.verdict_of.Goals as goal

pub returns-then-spent : goal.returns-then-spent
returns-then-spent c = verdict_spent _ _ c.if-spent.true

pub returns-then-rejected-eq0 : goal.returns-then-rejected-eq0
returns-then-rejected-eq0 c = verdict_all _ _ c.if-spent.false c.if-rejected-eq0.true

pub returns : goal.returns
returns c = verdict_short _ _ c.if-spent.false c.if-rejected-eq0.false
