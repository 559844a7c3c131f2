-- What one more call took stands behind what was taken.
use Rattle.std.proofs.Common.{rules, subst, ◌+◌}
use Rattle.std.specs.Io.KnownBytes.{Appends}
use Rattle.console.proofs.WriteLaws.{appends_both, front_part}
use Rattle.console.proofs.write_bytes.Goals as goal

pub loop-done-preserved : goal.loop-done-preserved
loop-done-preserved g c =
    let at = c.loop-done in
    let more = c.write_once-taken in
    (search rules, subst (Appends _ _) (front_part at.done (at.done + 1) more.result c.args.bytes.now at.invariant.0 more.ensures.most) (appends_both _ _ _ _ _ at.invariant.1 more.ensures.bytes))
