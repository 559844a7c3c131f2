-- The steps are those of the planner's answer.
use mathlib.Core.Path.{ap}
use Rattle.bench_entry.proofs.bench_search.Goals as goal

pub returns : goal.returns
returns c = ap (λ p. p.steps) c.plan.ensures.answer
