-- A turn of Euclid's algorithm keeps the greatest common divisor; the remainder falls.
use mathlib.Core.Path.{◌≡◌}
use Rattle.numbers.specs.Multiples.{gcd}
use Rattle.multiples.proofs.gcd.Given as goal

abbrev pub invariant-loop-y : goal.invariant-loop-y
invariant-loop-y l = gcd l.a l.b ≡ gcd l.x l.y

abbrev pub decreases-loop-y : goal.decreases-loop-y
decreases-loop-y l = l.y
