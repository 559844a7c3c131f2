-- What is owed, by the test of the request.
use borrow.Author.Rules.{rules}
use Rattle.releases.proofs.ReleaseLaws.{owed_none, owed_some}
use Rattle.releases.proofs.owed_for.Goals as goal

pub returns-then-asked-eq0 : goal.returns-then-asked-eq0
returns-then-asked-eq0 c = search (rules, owed_none)

pub returns-else-asked-eq0 : goal.returns-else-asked-eq0
returns-else-asked-eq0 c = search (rules, owed_some)
