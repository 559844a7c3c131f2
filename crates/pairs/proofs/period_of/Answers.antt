-- The period of a task that there is.
use borrow.Author.Rules.{rules}
use Rattle.pairs.specs.Pairs.{period_of}
use Rattle.pairs.proofs.PairLaws.{period-here}
use Rattle.pairs.proofs.period_of.Goals as goal

pub returns-then-t-eq0 : goal.returns-then-t-eq0
unfolding period_of
returns-then-t-eq0 c = rw c.if-t-eq0.true

pub returns-else-t-eq0 : goal.returns-else-t-eq0
returns-else-t-eq0 c = search (rules, period-here)
