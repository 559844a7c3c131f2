-- Whether a task is found that holds t up.
use borrow.Author.Rules.{rules}
use Rattle.precedence.specs.Sequence.{holds_up}
use Rattle.relation.specs.Cells.{edge}
use Rattle.sequencing.specs.Marks.{marked}
use Rattle.sequencing.proofs.MarkLaws.{holds_up_lem, waits-found}
use Rattle.sequencing.proofs.waits.Goals as goal

pub returns : goal.returns
returns c =
    waits-found _ _ _ _ c.is_some.ensures
    (c.first.ensures (holds_up (edge c.args.cells.now) (marked c.args.placed.now) c.args.t) (λ k x h e. search (rules, holds_up_lem)))
