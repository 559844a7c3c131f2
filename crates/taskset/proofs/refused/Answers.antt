-- Zeros beside the cause.
use Rattle.taskset.specs.Reading.{refused_reading, no_tasks}
use borrow.Author.Rules.{rules}
use Rattle.taskset.proofs.refused.Goals as goal

pub returns : goal.returns
unfolding refused_reading no_tasks
returns c = search rules
