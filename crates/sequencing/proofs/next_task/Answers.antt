-- The first task that is ready.
use native.Mathlib.Omega.{arith}
use borrow.Author.Rules.{rules}
use Rattle.precedence.specs.Sequence.{is_ready, next_task}
use Rattle.relation.specs.Cells.{edge}
use Rattle.numbers.proofs.FirstLaws.{number_found}
use Rattle.sequencing.specs.Marks.{marked}
use Rattle.sequencing.proofs.MarkLaws.{ready-here, first_le}
use Rattle.sequencing.proofs.next_task.Goals as goal

pub returns : goal.returns
unfolding next_task
returns c =
    let e = number_found _ c.unwrap_or.ensures (c.first.ensures (is_ready (edge c.args.cells.now) c.args.n (marked c.args.placed.now)) (λ k x h e. search (rules, ready-here))) in
    let l = first_le (is_ready (edge c.args.cells.now) c.args.n (marked c.args.placed.now)) c.args.n in
    (e, omega (arith, e, l))
