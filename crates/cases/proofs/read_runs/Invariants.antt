-- The row keeps its records.
use Rattle.std.proofs.Common.{◌≤◌, length}
use Rattle.logwords.specs.Words.{records_in}
use Rattle.cases.proofs.read_runs.Given as goal

abbrev pub invariant-loop-k : goal.invariant-loop-k
invariant-loop-k l = l.n ≤ length (records_in l.words)
