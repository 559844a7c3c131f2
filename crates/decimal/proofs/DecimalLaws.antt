-- The digits of a number.
use Prim.Native.Nat.{ℕ, zero, suc, ◌+◌, ◌/◌, ◌%◌, ◌^◌, ◌≤◌, ◌<◌}
use mathlib.Core.Path.{◌≡◌, refl, ◌∙◌, ap}
use mathlib.Core.List.{List, [], ◌∷◌, ◌++◌}
use lib.ListN.{length, length-append}
use native.Mathlib.Omega.{arith}
use native.Mathlib.Nat.{div-eq_of_lt, pow-succ'}
use Rattle.decimal.specs.Decimal.{front, digits_by, decimal}

front-more : (f : ℕ → List ℕ) (q : ℕ) → 0 < q → front f q ≡ f q
unfolding front
front-more f zero h = absurd (omega arith)
front-more f (suc q) h = refl

front_cong : (f g : ℕ → List ℕ) (q : ℕ) → (0 < q → f q ≡ g q) → front f q ≡ front g q
unfolding front
front_cong f g zero h = refl
front_cong f g (suc q) h = h (omega arith)

front_few : (f : ℕ → List ℕ) (q k : ℕ) → (0 < q → length (f q) ≤ k) → length (front f q) ≤ k
unfolding front
front_few f zero k h = omega arith
front_few f (suc q) k h = h (omega arith)

-- two bounds above x give the same digits
same_digits : (k j x : ℕ) → x < k → x < j → digits_by k x ≡ digits_by j x
unfolding digits_by
same_digits zero j x h g = absurd (omega arith)
same_digits (suc k) zero x h g = absurd (omega arith)
same_digits (suc k) (suc j) x h g =
    ap (λ l. l ++ ((48 + x % 10) ∷ []))
    (front_cong (digits_by k) (digits_by j) (x / 10) (λ p. same_digits k j (x / 10) (omega arith) (omega arith)))

pub decimal-one : (x : ℕ) → x < 10 → decimal x ≡ (48 + x % 10) ∷ []
unfolding decimal digits_by front
decimal-one x h = rw (div-eq_of_lt h)

pub decimal-more : (x : ℕ) → 10 ≤ x → decimal x ≡ decimal (x / 10) ++ ((48 + x % 10) ∷ [])
unfolding decimal digits_by
decimal-more x h =
    ap (λ l. l ++ ((48 + x % 10) ∷ []))
    (front-more (digits_by x) (x / 10) (omega arith)
    ∙ same_digits x (suc (x / 10)) (x / 10) (omega arith) (omega arith))

few_digits : (j k x : ℕ) → x < 10 ^ suc k → length (digits_by j x) ≤ suc k
unfolding digits_by front
few_digits zero k x h = omega arith
few_digits (suc j) zero x h = let z : x / 10 ≡ 0 = omega arith in rw z (omega arith)
few_digits (suc j) (suc k) x h =
    let q : x / 10 < 10 ^ suc k = omega (arith, rw (pow-succ' 10 (suc k)) at h) in
    let f : length (front (digits_by j) (x / 10)) ≤ suc k = front_few (digits_by j) (x / 10) (suc k) (λ p. few_digits j k (x / 10) q) in
    simp length-append (omega arith)

-- a number of 64 bits has at most twenty digits
pub decimal_few : (x : ℕ) → x < 18446744073709551616 → length (decimal x) ≤ 20
unfolding decimal
decimal_few x h = few_digits (suc x) 19 x (omega arith)
