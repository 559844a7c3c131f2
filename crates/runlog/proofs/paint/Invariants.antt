-- The loop has filled in the first k records.
use mathlib.Core.Path.{◌≡◌}
use lib.ListN.{take}
use Rattle.replay.specs.Tests.{painted_all}
use Rattle.runlog.proofs.paint.Given as goal

abbrev pub invariant-loop-k : goal.invariant-loop-k
invariant-loop-k g l = l.bytes ≡ painted_all (take l.k (g.L.Layout.records l.row)) l.initial.bytes
