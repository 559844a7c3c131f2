-- The slot of the task that runs is changed, and no other.
use Rattle.runner.proofs.TickLaws.{run_none, run-one}
use borrow.Author.Rules.{rules}
use Rattle.runner.proofs.after_run.Goals as goal

pub returns-then-run-ne0 : goal.returns-then-run-ne0
returns-then-run-ne0 c = run-one c.args.run c.args.slots _ (search rules) c.requires c.if-run-ne0.true c.ran.ensures

pub returns-else-run-ne0 : goal.returns-else-run-ne0
returns-else-run-ne0 c = search (rules, run_none)
