-- The measure is the number.
use Rattle.decimal.proofs.+append_decimal.Given as goal

abbrev pub decreases-append_decimal : goal.decreases-append_decimal
decreases-append_decimal l = l.x
