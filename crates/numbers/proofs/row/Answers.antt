-- A row, filled from the front.
use native.Mathlib.Omega.{arith}
use Rattle.numbers.proofs.RowLaws.{fill_start, fill_next, filled_most}
use Rattle.numbers.proofs.row.Goals as goal

pub loop-k-init : goal.loop-k-init
loop-k-init g c = λ f t. fill_start _ _ f (omega (arith, c.at_most_sixteen-k-end.ensures))

pub loop-k-preserved : goal.loop-k-preserved
loop-k-preserved g c = λ f t. fill_next (c.loop-k.invariant f t) c.loop-k-test.true (t _ _ c.loop-k-test.true c.entry.ensures)

pub returns : goal.returns
returns g c = λ f t. filled_most _ _ f (c.loop-k.invariant f (λ k x h. t k x (omega (arith, c.at_most_sixteen-k-end.ensures)))) c.at_most_sixteen-k-end.ensures c.loop-k-test.false
