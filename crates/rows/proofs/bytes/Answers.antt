-- A row, filled from the front.
use native.Mathlib.Omega.{arith}
use Rattle.wire.specs.Bytes.{byte_at}
use Rattle.numbers.proofs.RowLaws.{fill_start, fill_next, fill_most}
use Rattle.rows.proofs.bytes.Goals as goal

pub loop-k-init : goal.loop-k-init
loop-k-init c = fill_start 0 _ _ (omega (arith, c.at_most_sixteen-k-end.ensures))

pub loop-k-preserved : goal.loop-k-preserved
unfolding byte_at
loop-k-preserved c = fill_next c.loop-k.invariant c.loop-k-test.true c.byte.ensures

pub returns : goal.returns
returns c = fill_most _ c.loop-k.invariant c.at_most_sixteen-k-end.ensures c.loop-k-test.false
