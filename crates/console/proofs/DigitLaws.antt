-- A text's digits are those that the kit prints.
use Prim.Native.Nat.{ℕ, zero, suc, ◌+◌, ◌*◌, ◌-◌, ◌/◌, ◌%◌, ◌^◌, ◌≤◌, ◌<◌}
use mathlib.Core.Path.{◌≡◌, ap}
use mathlib.Core.List.{[], ◌∷◌, ◌++◌}
use native.Mathlib.Omega.{arith}
use native.Mathlib.Nat.{pow-succ', one-le-pow, mod-eq_of_lt}
use borrow.Author.Tests.{lt-ltb}
use Rattle.std.proofs.lemmas.Fmt.{decimal_by_steps}
use Rattle.decimal.specs.Decimal.{decimal}
use Rattle.decimal.proofs.DecimalLaws.{decimal-one, decimal-more}
use Rattle.console.specs.Digits.{hex_digit_ascii, KitDigits, PrintedDigits}

glyph_digit : (n : ℕ) → hex_digit_ascii (n % 10) ≡ 48 + n % 10
glyph_digit n = rw (lt-ltb (n % 10) 10 (omega arith))

pub kit_digits : KitDigits
kit_digits n zero f = absurd (omega (arith, f.0))
kit_digits n (suc zero) f = rw (decimal-one n (omega (arith, f.1)), glyph_digit n)
kit_digits n (suc (suc k)) f =
    let e : suc (suc k) - 1 ≡ suc k = omega arith in
    let low : 10 ^ suc k ≤ n = rw e at (f.2 (omega arith)) in
    let high : n < 10 * 10 ^ suc k = rw (pow-succ' 10 (suc k)) at f.1 in
    let low' : 10 * 10 ^ k ≤ n = rw (pow-succ' 10 k) at low in
    let some : 1 ≤ 10 ^ k = one-le-pow k 10 (omega arith) in
    rw (decimal-more n (omega arith), glyph_digit n)
    (ap (λ l. l ++ ((48 + n % 10) ∷ []))
    (kit_digits (n / 10) (suc k)
    (omega arith, omega arith, λ h. let d : suc k - 1 ≡ k = omega arith in rw d (omega arith))))

pub printed_digits : PrintedDigits
printed_digits x small = decimal_by_steps (λ n ds. ds ≡ decimal n)
    (λ n h. let e : n % 10 ≡ n = mod-eq_of_lt h in rw (decimal-one n h, e))
    (λ n ds h e. rw (decimal-more n h, e))
    x small
