-- A search for the first index at which the test holds, whatever says what the test does.
use Rattle.std.proofs.Common.{ℕ, Bool}
use Rattle.numbers.specs.Calls.{Tells}
use Rattle.numbers.proofs.FirstLaws.{Seeking}
use Rattle.numbers.proofs.first.Given as goal

abbrev pub invariant-loop-k : goal.invariant-loop-k
invariant-loop-k g l = (p : ℕ → Bool) → Tells l.n (goal.F-post g l.test) p → Seeking p l.n l.k
