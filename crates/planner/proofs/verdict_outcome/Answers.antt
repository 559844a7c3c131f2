-- An outcome for each verdict.
use mathlib.Core.Path.{refl}
use Rattle.planner.specs.Plan.{verdict_outcome}
use Rattle.planner.proofs.PlanLaws.{outcome_of}
use borrow.Author.Rules.{rules}
use Rattle.planner.proofs.verdict_outcome.Goals as goal

pub returns-in-All : goal.returns-in-All
unfolding verdict_outcome
returns-in-All c = outcome_of c.in-All.is refl

pub returns-in-Short : goal.returns-in-Short
unfolding verdict_outcome
returns-in-Short c = outcome_of c.in-Short.is refl

pub returns-in-Spent : goal.returns-in-Spent
unfolding verdict_outcome
returns-in-Spent c = outcome_of c.in-Spent.is refl

pub returns-in-Refused : goal.returns-in-Refused
unfolding verdict_outcome
returns-in-Refused c = search (rules, outcome_of)
