-- A search for the first index at which the test holds.
use native.Mathlib.Omega.{arith}
use Rattle.numbers.proofs.FirstLaws.{seek_start, none_found, looked_on, looked_up}
use Rattle.numbers.proofs.first.Goals as goal

pub loop-k-init : goal.loop-k-init
loop-k-init g c = λ p t. seek_start p _

pub returns-then-test : goal.returns-then-test
returns-then-test g c = λ p t. looked_up (c.loop-k.invariant p t) c.loop-k-test.true (t _ _ c.loop-k-test.true c.test.ensures) c.if-test.true

pub loop-k-preserved : goal.loop-k-preserved
loop-k-preserved g c = λ p t. looked_on (c.loop-k.invariant p t) c.loop-k-test.true (t _ _ c.loop-k-test.true c.test.ensures) c.if-test.false

pub returns : goal.returns
returns g c = λ p t. none_found (c.loop-k.invariant p t) (omega arith)
