-- A turn of Euclid's algorithm keeps the greatest common divisor; the remainder falls.
use mathlib.Core.Path.{refl, sym, ◌∙◌, ap}
use native.Mathlib.Nat.{mod-lt, pos_of_ne-zero}
use Rattle.numbers.specs.Multiples.{gcd}
use Rattle.numbers.proofs.MultipleLaws.{gcd_step, gcd_zero}
use Rattle.multiples.proofs.gcd.Goals as goal

pub loop-y-init : goal.loop-y-init
loop-y-init c = refl

pub nonzero_rem-t : goal.nonzero_rem-t
nonzero_rem-t c = pos_of_ne-zero c.loop-y-test.true

pub loop-y-smaller : goal.loop-y-smaller
loop-y-smaller c = mod-lt _ (pos_of_ne-zero c.loop-y-test.true)

pub loop-y-preserved : goal.loop-y-preserved
loop-y-preserved c = c.loop-y.invariant ∙ gcd_step _ _

pub returns : goal.returns
returns c = sym (c.loop-y.invariant ∙ ap (gcd _) c.loop-y-test.false ∙ gcd_zero _)
