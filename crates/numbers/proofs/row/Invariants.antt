-- A row, filled from the front, whatever says what the entries are.
use Rattle.std.proofs.Common.{ℕ}
use Rattle.numbers.specs.Calls.{Tells}
use Rattle.numbers.proofs.RowLaws.{Filled}
use Rattle.numbers.proofs.row.Given as goal

abbrev pub invariant-loop-k : goal.invariant-loop-k
invariant-loop-k g l = (f : ℕ → _) → Tells l.k-end (goal.F-post g l.entry) f → Filled l.fn.zero l.k-end f l.entries l.k
