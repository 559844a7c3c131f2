-- Binary digits, lowest first: how many are set, and the lowest that is.
use Prim.Native.Nat.{ℕ, zero, suc, ◌+◌, ◌/◌, ◌%◌, ◌^◌, ◌<◌}
use native.Mathlib.Nat.{mod-lt, div-one, zero-div, div-add-mod'}
use native.Mathlib.Numerals.{add-one}
use native.Mathlib.Omega.{arith}
use mathlib.Core.Path.{◌≡◌, refl, sym, ap, ◌∙◌}
use mathlib.Core.Logic.{◌⊎◌, inl, inr}
use lib.Pow.{shr_lt, shr-shr}
use lib.Count.{ones, ones_step, count_trailing_zeros, under}
use Rattle.numbers.specs.First.{IsFirst}
use Rattle.numbers.specs.Sums.{sum_to}
use Rattle.numbers.proofs.SumLaws.{sum_to_cong, sum_to-front}

-- digit i of n, counted from 0
abbrev pub digit : ℕ → ℕ → ℕ
digit n i = n / 2 ^ i % 2

pub digit_or : (n i : ℕ) → (digit n i ≡ 0) ⊎ (digit n i ≡ 1)
digit_or n i = go (digit n i) (mod-lt (n / 2 ^ i) {m = 2} (omega arith))
  where
    go : (d : ℕ) → d < 2 → (d ≡ 0) ⊎ (d ≡ 1)
    go zero h = inl refl
    go (suc zero) h = inr refl
    go (suc (suc d)) h = absurd (omega arith)

pub digit_zero : (i : ℕ) → digit 0 i ≡ 0
digit_zero i = ap (λ (x : ℕ). x % 2) (zero-div (2 ^ i))

-- the digits from j on are those of the quotient
pub digit_above : (n j i : ℕ) → digit (n / 2 ^ j) i ≡ digit n (j + i)
digit_above n j i = ap (λ (x : ℕ). x % 2) (shr-shr n j i)

digit_half : (n i : ℕ) → digit (n / 2) i ≡ digit n (suc i)
digit_half n i = digit_above n 1 i ∙ ap (digit n) (omega arith)

half_below : (k n : ℕ) → n < 2 ^ suc k → n / 2 < 2 ^ k
half_below k n h = shr_lt k 1 (rw (add-one k) h)

-- the count of ones
pub ones_digits : (k n : ℕ) → n < 2 ^ k → ones n ≡ sum_to (digit n) k
unfolding sum_to
ones_digits zero zero h = unfold ones in refl
ones_digits zero (suc n) h = absurd (omega arith)
ones_digits (suc k) n h =
    omega (
      arith,
      ones_step n,
      ones_digits k (n / 2) (half_below k n h),
      sum_to-front (digit n) k,
      ap (λ (x : ℕ). x % 2) (div-one n),
      sum_to_cong (digit (n / 2)) (λ i. digit n (suc i)) k (λ i l. digit_half n i),
    )

-- the trailing zeros end at the lowest digit that is set
pub trailing_first : (k n : ℕ) → 0 < n → n < 2 ^ k → IsFirst (λ i. digit n i ≡ 1) k (count_trailing_zeros k n)
unfolding count_trailing_zeros
trailing_first zero n l h = absurd (omega arith)
trailing_first (suc k) n l h = go (n % 2) refl (mod-lt n {m = 2} (omega arith)) (λ q. trailing_first k (n / 2) q (half_below k n h))
  where
    lowest : digit n 0 ≡ n % 2
    lowest = ap (λ (x : ℕ). x % 2) (div-one n)

    go : (d : ℕ) → n % 2 ≡ d → d < 2 → (0 < n / 2 → IsFirst (λ i. digit (n / 2) i ≡ 1) k (count_trailing_zeros k (n / 2)))
        → IsFirst (λ i. digit n i ≡ 1) (suc k) (under d (count_trailing_zeros k (n / 2)))
    go zero e b rest =
        let r = rest (omega (arith, div-add-mod' n 2)) in
        record {
          below = omega (arith, r.below);
          here = sym (digit_half n (count_trailing_zeros k (n / 2))) ∙ r.here;
          none = before r;
        }
      where
        before : IsFirst (λ i. digit (n / 2) i ≡ 1) k (count_trailing_zeros k (n / 2)) → (j : ℕ) → j < suc (count_trailing_zeros k (n / 2)) → digit n j ≡ 1 → ⊥
        before r zero g q = omega (arith, lowest)
        before r (suc j) g q = r.none j (omega arith) (digit_half n j ∙ q)
    go (suc zero) e b rest = record { below = omega arith; here = lowest ∙ e; none = λ j g q. omega arith }
    go (suc (suc d)) e b rest = absurd (omega arith)
