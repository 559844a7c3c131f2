-- A record more is there.
use Rattle.std.proofs.Common.{◌<◌, arith, length}
use Rattle.logwords.specs.Words.{records_in}
use Rattle.logwords.proofs.WordLaws.{stored-count}
use Rattle.cases.proofs.read_runs.Goals as goal

pub loop-k-preserved : goal.loop-k-preserved
loop-k-preserved c =
    let at = c.loop-k in
    let there : at.k < length (records_in at.words) = omega (arith, at.invariant, c.loop-k-test.true) in
    rw c.put_run.ensures (omega (arith, stored-count at.words at.k c.run_in.result there, at.invariant))
