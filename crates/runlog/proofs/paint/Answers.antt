-- The loop has filled in the first k records.
use mathlib.Core.Path.{◌≡◌}
use native.Mathlib.Omega.{arith}
use Rattle.replay.proofs.PaintLaws.{paint_more}
use Rattle.runlog.proofs.paint.Goals as goal

pub loop-k-preserved : goal.loop-k-preserved
loop-k-preserved g c = paint_more (g.L.Layout.records c.args.row.now) c.loop-k.k _ (omega arith) c.loop-k.invariant c.record.ensures c.paint.ensures

pub returns : goal.returns
returns g c = let all : c.loop-k.k ≡ c.args.n = omega arith in rw all at c.loop-k.invariant
