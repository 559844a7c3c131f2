-- What one more call read stands behind what was read.
use Rattle.std.proofs.Common.{rules, ◌-◌, length, subst}
use Rattle.std.specs.Io.KnownBytes.{Consumes}
use Rattle.console.proofs.ReadLaws.{consumes_both, front_more}
use Rattle.console.proofs.read_full.Goals as goal

pub loop-done-preserved : goal.loop-done-preserved
loop-done-preserved g c =
    let at = c.loop-done in
    let read = c.read_once-got in
    let joined = front_more at.done (length at.buffer - at.done) read.result at.buffer read.new.buffer at.invariant.1 read.ensures.counts.0 in
    (search rules, search rules, subst (Consumes _ _) joined (consumes_both _ _ _ _ _ at.invariant.2 read.ensures.bytes))
