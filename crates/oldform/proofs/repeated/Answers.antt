-- A row of equal bytes.
use borrow.Author.Rules.{rules}
use Rattle.oldform.proofs.FormLaws.{same_byte}
use Rattle.oldform.proofs.repeated.Goals as goal

pub returns : goal.returns
returns c = c.row.ensures _ (λ k x h e. search (rules, same_byte))
