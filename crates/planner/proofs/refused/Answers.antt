-- Zeros beside the cause.
use Rattle.planner.specs.Plan.{refused_plan}
use borrow.Author.Rules.{rules}
use Rattle.planner.proofs.refused.Goals as goal

pub returns : goal.returns
unfolding refused_plan
returns c = search rules
