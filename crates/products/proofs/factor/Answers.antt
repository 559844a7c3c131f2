-- The branch taken is that of the definition.
use native.Mathlib.Numerals.{add-one}
use Rattle.products.specs.Products.{factor_for}
use Rattle.products.proofs.factor.Goals as goal

pub returns-then-tied : goal.returns-then-tied
unfolding factor_for
returns-then-tied c = rw (c.if-tied.true, c.from.ensures, c.count.ensures, add-one c.args.k)

pub returns-else-tied : goal.returns-else-tied
unfolding factor_for
returns-else-tied c = rw (c.if-tied.false, c.min.ensures)
