-- The product of two 32-bit numbers fits 64 bits.
use Prim.Native.Nat.{ℕ, ◌+◌, ◌*◌, ◌^◌, ◌<◌}
use native.Mathlib.Nat.{le_of_lt, lt_of_le_of_lt, mul-le-mul_left, mul-lt-mul_of_pos_right}
use lib.Pow.{pow_pos, pow-add}
use borrow.Author.Rules.{rules}
use Rattle.multiples.proofs.product.Goals as goal

product_fits : (k : ℕ) {a b : ℕ} → a < 2 ^ k → b < 2 ^ k → a * b < 2 ^ (k + k)
product_fits k {a} ha hb =
    rw pow-add (lt_of_le_of_lt (mul-le-mul_left a (le_of_lt hb)) (mul-lt-mul_of_pos_right ha (pow_pos k)))

pub overflow_mul-result : goal.overflow_mul-result
overflow_mul-result c = record { fits = product_fits 32 (search rules) (search rules) }
