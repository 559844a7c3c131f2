-- Laws of the greatest common divisor and of the least common multiple.
use Prim.Native.Nat.{ℕ, zero, suc, ◌*◌, ◌/◌, ◌%◌, ◌≤◌, ◌<◌, ◌∣◌}
use mathlib.Core.Path.{◌≡◌, refl, ◌∙◌, ap, ap₂}
use mathlib.Core.Logic.{inl, inr, ◌↔◌}
use native.Mathlib.Omega.{arith}
use native.Mathlib.Nat.{dvd_refl, dvd-zero, dvd-mul_left, dvd-mul_right, dvd_trans, dvd-mul_right_of_dvd, dvd-mod_iff, dvd_antisymm, pos_of_dvd_of_pos, div-mul_cancel, dvd_of_mul-dvd-mul_right, dvd-sub, mul-dvd-mul_left, mul-dvd-mul_right, mod_def, mul-sub, mod-lt, mul_assoc, mul_comm, mul_right_comm, mul-div_assoc, one-mul, le_of_dvd, one-dvd, mul-pos, zero-lt-suc, le-div_iff_mul-le, eq-or-lt_of_le, div-zero, zero-mul}
use Rattle.numbers.specs.Multiples.{euclid, gcd, lcm, lcms, IsLcm}

-- what makes g the greatest common divisor of a and b; greatest is said of any multiple m
record IsGcd (g a b : ℕ) : Type 0 where
  left : g ∣ a
  right : g ∣ b
  greatest : (m d : ℕ) → d ∣ m * a → d ∣ m * b → d ∣ m * g

-- a step of Euclid's algorithm keeps it
gcd_up : {g a b : ℕ} → IsGcd g b (a % b) → IsGcd g a b
gcd_up {g} {a} {b} i = record {
  left = (dvd-mod_iff _ i.left).0 i.right;
  right = i.left;
  greatest = λ m d p q. i.greatest m d q
      (rw (mod_def, mul-sub, ← mul_assoc) (dvd-sub d p (dvd-mul_right_of_dvd d q (a / b))));
}

euclid_is : (k a b : ℕ) → b < k → IsGcd (euclid k a b) a b
unfolding euclid
euclid_is zero a b h = absurd (omega arith)
euclid_is (suc k) a zero h = record { left = dvd_refl a; right = dvd-zero a; greatest = λ m d p q. p }
euclid_is (suc k) a (suc b) h = gcd_up (euclid_is k (suc b) (a % suc b) (omega (arith, mod-lt a (zero-lt-suc b))))

gcd_is : (a b : ℕ) → IsGcd (gcd a b) a b
unfolding gcd
gcd_is a b = euclid_is (suc b) a b (omega arith)

gcd_above : {g h a b : ℕ} → IsGcd g a b → IsGcd h a b → h ∣ g
gcd_above {h = h} i j = simp one-mul at (i.greatest 1 h (rw one-mul j.left) (rw one-mul j.right))

pub gcd_step : (a b : ℕ) → gcd a b ≡ gcd b (a % b)
gcd_step a b = let i = gcd_up (gcd_is b (a % b)) in dvd_antisymm (gcd_above i (gcd_is a b)) (gcd_above (gcd_is a b) i)

pub gcd_zero : (a : ℕ) → gcd a 0 ≡ a
unfolding gcd euclid
gcd_zero a = refl

pub gcd_pos : (a b : ℕ) → 0 < a → 0 < gcd a b
gcd_pos a b h = pos_of_dvd_of_pos (gcd_is a b).left h

-- The laws of the least common multiple
pub lcm_left : (a b : ℕ) → a ∣ lcm a b
unfolding lcm
lcm_left a b =
    let i = gcd_is a b in
    rw (mul_comm, ← mul-div_assoc _ b i.left, mul_comm, mul-div_assoc _ a i.right) (dvd-mul_right a _)

pub lcm_right : (a b : ℕ) → b ∣ lcm a b
unfolding lcm
lcm_right a b = dvd-mul_left b (a / gcd a b)

pub lcm_least : (a b m : ℕ) → 0 < a → a ∣ m → b ∣ m → lcm a b ∣ m
unfolding lcm
lcm_least a b m ha p q =
    let i = gcd_is a b in
    dvd_of_mul-dvd-mul_right (a / gcd a b * b) (gcd_pos a b ha)
    (rw (mul_right_comm, div-mul_cancel (gcd a b) i.left)
    (i.greatest m (a * b) (rw (mul_comm m a) (mul-dvd-mul_left b a q)) (mul-dvd-mul_right a p b)))

pub lcm_pos : (a b : ℕ) → 0 < a → 0 < b → 0 < lcm a b
unfolding lcm
lcm_pos a b ha hb = mul-pos ((le-div_iff_mul-le {x = 1} (gcd_pos a b ha)).1 (rw one-mul (le_of_dvd ha (gcd_is a b).left))) hb

-- as a program computes it
pub lcm_by : (a b g p : ℕ) → g ≡ gcd a b → p ≡ a / g * b → p ≡ lcm a b
unfolding lcm
lcm_by a b g p e q = q ∙ ap (λ x. a / x * b) e

pub lcm-none : (a b g : ℕ) → g ≡ gcd a b → g ≡ 0 → 0 ≡ lcm a b
lcm-none a b g e z = lcm_by a b g 0 e (rw (z, div-zero, zero-mul))

-- The least common multiple of several numbers: it is a multiple of each,
pub lcms-multiple : (f : ℕ → ℕ) (n k : ℕ) → k < n → f k ∣ lcms f n
unfolding lcms
lcms-multiple f zero k h = absurd (omega arith)
lcms-multiple f (suc n) k h = elim (eq-or-lt_of_le {n = k} {m = n} (omega arith)) [
  | inl e ↦ rw e (lcm_right (lcms f n) (f n))
  | inr l ↦ dvd_trans _ (lcms-multiple f n k l) (lcm_left (lcms f n) (f n))
]

-- and divides each common multiple, so that it is the least.
pub lcms_is : (f : ℕ → ℕ) (n : ℕ) → ((k : ℕ) → k < n → 0 < f k) → IsLcm f n (lcms f n)
unfolding lcms
lcms_is f zero p = record { positive = omega arith; multiple = lcms-multiple f zero; least = λ c h. one-dvd c }
lcms_is f (suc n) p =
    let i = lcms_is f n (λ k b. p k (omega arith)) in
    record {
      positive = lcm_pos (lcms f n) (f n) i.positive (p n (omega arith));
      multiple = lcms-multiple f (suc n);
      least = λ c h. lcm_least (lcms f n) (f n) c i.positive (i.least c (λ k b. h k (omega arith))) (h n (omega arith));
    }

-- A positive number is the least common multiple exactly if it is the one that is computed.
pub lcms_exactly : (f : ℕ → ℕ) (n m : ℕ) → 0 < m → (m ≡ lcms f n) ↔ IsLcm f n m
lcms_exactly f n m h = (
  λ e. rw e (lcms_is f n (λ k b. pos_of_dvd_of_pos (rw e (lcms-multiple f n k b)) h)),
  λ i. dvd_antisymm (i.least (lcms f n) (lcms-multiple f n))
      ((lcms_is f n (λ k b. pos_of_dvd_of_pos (i.multiple k b) h)).least m i.multiple),
)

-- the running multiple never falls
pub lcms_mono : (f : ℕ → ℕ) (k n : ℕ) → k ≤ n → ((j : ℕ) → j < n → 0 < f j) → lcms f k ≤ lcms f n
lcms_mono f k n h p =
    le_of_dvd (lcms_is f n p).positive
    ((lcms_is f k (λ j b. p j (omega arith))).least (lcms f n) (λ j b. lcms-multiple f n j (omega arith)))

-- the multiple depends on the numbers below n alone
pub lcms_cong : (f g : ℕ → ℕ) (n : ℕ) → ((k : ℕ) → k < n → f k ≡ g k) → lcms f n ≡ lcms g n
unfolding lcms
lcms_cong f g zero h = refl
lcms_cong f g (suc n) h = ap₂ lcm (lcms_cong f g n (λ k b. h k (omega arith))) (h n (omega arith))
