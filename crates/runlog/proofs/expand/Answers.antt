-- The records are looked at, and filled in where the answer says so.
use mathlib.Core.Path.{◌∙◌, ap}
use native.Mathlib.Omega.{arith}
use lib.ListN.{length}
use Rattle.replay.specs.Tests.{audit_answer, to_paint}
use Rattle.replay.proofs.AuditLaws.{audit_answers}
use Rattle.replay.proofs.PaintLaws.{row-painted, to_paint_le}
use Rattle.replay.proofs.PromiseLaws.{expand_decides, expands}
use Rattle.runlog.proofs.expand.Goals as goal

pub paint-requires : goal.paint-requires
paint-requires g c = let h = to_paint_le _ _ _ c.to_paint-n.ensures in omega (arith, h, c.count.ensures)

pub returns : goal.returns
returns g c =
    let rs = g.L.Layout.records c.args.row.now in
    let bytes = c.args.bytes.now in
    let e = c.expand_answer-answer.ensures ∙ ap (λ f. audit_answer f (length bytes)) c.audit.ensures ∙ audit_answers rs (length bytes) in
    let n = c.to_paint-n.ensures ∙ ap (to_paint _) c.count.ensures in
    let o = c.paint.ensures ∙ row-painted rs bytes _ _ e n in
    record { answer = e; bytes = o; decides = expand_decides rs (length bytes) e; expands = expands rs bytes e o }
