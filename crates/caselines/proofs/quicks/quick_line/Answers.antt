-- Number and place, the rejected demand, the cores, a line feed.
use borrow.Author.Rules.{rules}
use Rattle.decimal.proofs.JoinLaws.{as_itself}
use Rattle.caselines.proofs.LineLaws.{quick_whole}
use Rattle.caselines.proofs.quicks.quick_line.Goals as goal

pub returns : goal.returns
returns c =
    search (rules, quick_whole, rw c.from.ensures at c.append_field-rejected.ensures, c.append_row-cores.ensures (λ x. x) as_itself)
