-- A text shows as many bytes as its length says, or all that it has.
use borrow.Author.Rules.{rules}
use Rattle.console.proofs.WriteLaws.{front_shown}
use Rattle.console.proofs.shown_bytes.Goals as goal

pub returns : goal.returns
returns c = rw c.min.ensures (front_shown c.args.t.now (search rules))
