-- Laws of sums and products.
use Prim.Native.Nat.{ℕ, zero, suc, ◌+◌, ◌*◌, ◌≤◌, ◌<◌}
use mathlib.Core.Path.{◌≡◌, refl, ap, ap₂, ◌∙◌}
use mathlib.Core.Bool.{cond}
use mathlib.Core.List.{List, [], ◌∷◌}
use mathlib.Core.Logic.{by_cases}
use lib.Dec.{eqb, ltb}
use lib.ListN.{length}
use native.Mathlib.Nat.{le_refl, le_trans, add-zero, add-suc, zero-add, suc-add, mul-le-mul, mul-le-mul_right}
use native.Mathlib.Decide.{ℕ_discrete, dec_lt}
use native.Mathlib.Omega.{arith}
use borrow.Author.Tests.{eq-eqb, ne_eqb, lt-ltb, le-ltb}
use Rattle.numbers.specs.Sums.{sum_over, sum_to, product_to}

-- sums of equal terms
pub sum_to_cong : (f g : ℕ → ℕ) (n : ℕ) → ((k : ℕ) → k < n → f k ≡ g k) → sum_to f n ≡ sum_to g n
unfolding sum_to
sum_to_cong f g zero h = refl
sum_to_cong f g (suc n) h = ap₂ ◌+◌ (h n (omega arith)) (sum_to_cong f g n (λ k b. h k (omega arith)))

-- sums of smaller terms
pub sum_to_mono : (f g : ℕ → ℕ) (n : ℕ) → ((k : ℕ) → k < n → f k ≤ g k) → sum_to f n ≤ sum_to g n
unfolding sum_to
sum_to_mono f g zero h = omega arith
sum_to_mono f g (suc n) h = omega (arith, h n (omega arith), sum_to_mono f g n (λ k l. h k (omega arith)))

-- more terms
pub sum_to_grows : (f : ℕ → ℕ) (n w : ℕ) → sum_to f n ≤ sum_to f (w + n)
unfolding sum_to
sum_to_grows f n zero = rw zero-add (le_refl _)
sum_to_grows f n (suc w) = rw suc-add (omega (arith, sum_to_grows f n w))

-- terms of at most b add up to at most n times b
pub sum_to_bound : (f : ℕ → ℕ) (n b : ℕ) → ((k : ℕ) → k < n → f k ≤ b) → sum_to f n ≤ n * b
unfolding sum_to
sum_to_bound f zero b h = omega arith
sum_to_bound f (suc n) b h = omega (arith, h n (omega arith), sum_to_bound f n b (λ k l. h k (omega arith)))

pub sum_to_add : (f g : ℕ → ℕ) (n : ℕ) → sum_to (λ k. f k + g k) n ≡ sum_to f n + sum_to g n
unfolding sum_to
sum_to_add f g zero = refl
sum_to_add f g (suc n) = omega (arith, sum_to_add f g n)

-- as many ones as there are terms
pub sum_to_ones : (n : ℕ) → sum_to (λ k. 1) n ≡ n
unfolding sum_to
sum_to_ones zero = refl
sum_to_ones (suc n) = omega (arith, sum_to_ones n)

pub sum_over_ones : (l : List ℕ) → sum_over (λ x. 1) l ≡ length l
unfolding sum_over
sum_over_ones [] = refl
sum_over_ones (x ∷ l) = omega (arith, sum_over_ones l)

-- the first term apart
pub sum_to-front : (f : ℕ → ℕ) (n : ℕ) → sum_to f (suc n) ≡ f 0 + sum_to (λ k. f (suc k)) n
unfolding sum_to
sum_to-front f zero = refl
sum_to-front f (suc n) = omega (arith, sum_to-front f n)

-- n terms of at most 1 that make n are all 1
pub sum_to-full : (f : ℕ → ℕ) (n : ℕ) → ((k : ℕ) → k < n → f k ≤ 1) → sum_to f n ≡ n → (k : ℕ) → k < n → f k ≡ 1
unfolding sum_to
sum_to-full f zero h e k l = absurd (omega arith)
sum_to-full f (suc n) h e k l =
    let rest = sum_to_bound f n 1 (λ j i. h j (omega arith)) in
    by_cases (ℕ_discrete k n)
    (λ (q : k ≡ n). rw q (omega (arith, h n (omega arith))))
    (λ q. sum_to-full f n (λ j i. h j (omega arith)) (omega (arith, h n (omega arith))) k (omega arith))

-- terms of 0 from n on add nothing
pub sum_to_above : (f : ℕ → ℕ) (n w : ℕ) → ((k : ℕ) → n ≤ k → f k ≡ 0) → sum_to f (n + w) ≡ sum_to f n
unfolding sum_to
sum_to_above f n zero h = ap (sum_to f) (add-zero n)
sum_to_above f n (suc w) h = ap (sum_to f) (add-suc n w) ∙ omega (arith, h (n + w) (omega arith), sum_to_above f n w h)

-- f x where k is x
abbrev pub only : ℕ → (ℕ → ℕ) → ℕ → ℕ
only x f k = cond (eqb x k) (f k) 0

-- a sum with one term at most
pub sum_to-only : (x : ℕ) (f : ℕ → ℕ) (n : ℕ) → sum_to (only x f) n ≡ cond (ltb x n) (f x) 0
unfolding sum_to
sum_to-only x f zero = rw (le-ltb x 0 (omega arith))
sum_to-only x f (suc n) =
    by_cases (ℕ_discrete x n)
    (λ e. rw (eq-eqb x n e, sum_to-only x f n, le-ltb x n (omega arith), lt-ltb x (suc n) (omega arith), e) (omega arith))
    (λ d. rw (ne_eqb x n d, sum_to-only x f n, zero-add)
    (by_cases (dec_lt x n)
    (λ h. rw (lt-ltb x n h, lt-ltb x (suc n) (omega arith)))
    (λ h. rw (le-ltb x n (omega arith), le-ltb x (suc n) (omega arith)))))

-- ---- products

-- products of smaller factors
pub product_to_cong : (f g : ℕ → ℕ) (n : ℕ) → ((k : ℕ) → k < n → f k ≡ g k) → product_to f n ≡ product_to g n
unfolding product_to
product_to_cong f g zero h = refl
product_to_cong f g (suc n) h = rw (h n (omega arith), product_to_cong f g n (λ k i. h k (omega arith)))

pub product_to_mono : (f g : ℕ → ℕ) (n : ℕ) → ((k : ℕ) → k < n → f k ≤ g k) → product_to f n ≤ product_to g n
unfolding product_to
product_to_mono f g zero h = omega arith
product_to_mono f g (suc n) h = mul-le-mul (h n (omega arith)) (product_to_mono f g n (λ k l. h k (omega arith)))

-- further factors of at least 1
pub product_to_grows : (f : ℕ → ℕ) (n w : ℕ) → ((k : ℕ) → 1 ≤ f k) → product_to f n ≤ product_to f (w + n)
unfolding product_to
product_to_grows f n zero h = rw zero-add (le_refl _)
product_to_grows f n (suc w) h =
    rw suc-add (le_trans (product_to_grows f n w h) (omega (arith, mul-le-mul_right (product_to f (w + n)) (h (w + n)))))
