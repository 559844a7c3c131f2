-- The run goes on to its end.
use mathlib.Core.Path.{◌≡◌}
use Prim.Native.Nat.{◌+◌}
use lib.ListN.{drop}
use Rattle.runs.specs.Runs.{lead}
use Rattle.recording.proofs.run_end.Given as goal

abbrev pub invariant-loop-end : goal.invariant-loop-end
invariant-loop-end l = l.end + lead l.task (drop l.end l.answers) ≡ l.at + 1 + lead l.task (drop (l.at + 1) l.answers)
