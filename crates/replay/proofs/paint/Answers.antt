-- The ticks of the record are filled in.
use native.Mathlib.Omega.{arith}
use Rattle.replay.proofs.PaintLaws.{paint_strange, paint_beyond, paint_filled}
use Rattle.replay.proofs.paint.Goals as goal

pub returns-then-r-gt16 : goal.returns-then-r-gt16
returns-then-r-gt16 c = paint_strange _ c.args.r c.if-r-gt16.true

pub returns-then-row-first : goal.returns-then-row-first
returns-then-row-first c = paint_beyond _ c.args.r c.if-r-gt16.false c.if-row-first.true

pub returns : goal.returns
returns c = paint_filled _ _ c.args.r _ c.if-r-gt16.false c.if-row-first.false (omega arith) (c.fill.ensures.after (λ y e. e))
