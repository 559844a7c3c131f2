-- The branch taken is that of the test.
use native.Mathlib.Omega.{arith}
use borrow.Author.Tests.{le-leb, lt-leb}
use Rattle.branch.proofs.resume.Goals as goal

pub returns-then-bound-out : goal.returns-then-bound-out
returns-then-bound-out c = let a = c.args in simp (le-leb a.bound a.out (omega (arith, c.if-bound-out.true)))

pub returns : goal.returns
returns c = let a = c.args in simp (lt-leb a.bound a.out (omega (arith, c.if-bound-out.false))) c.tried_by.ensures
