-- The greatest common divisor and the least common multiple.
use Rattle.std.specs.Prelude.{ℕ, zero, suc, ◌*◌, ◌/◌, ◌%◌, ◌<◌}
use Rattle.std.specs.Int.{◌∣◌}

-- Euclid's algorithm, with at most k divisions
unfoldable pub euclid : ℕ → ℕ → ℕ → ℕ
euclid zero a b = a
euclid (suc k) a zero = a
euclid (suc k) a (suc b) = euclid k (suc b) (a % suc b)

-- the greatest common divisor: the second number falls with each division, so b + 1 of them are enough
unfoldable pub gcd : ℕ → ℕ → ℕ
gcd a b = euclid (suc b) a b

-- the least common multiple of two numbers
unfoldable pub lcm : ℕ → ℕ → ℕ
lcm a b = a / gcd a b * b

-- the least common multiple of f 0, .., f (n - 1)
unfoldable pub lcms : (ℕ → ℕ) → ℕ → ℕ
lcms f zero = 1
lcms f (suc n) = lcm (lcms f n) (f n)

-- m is the least common multiple of f 0, .., f (n - 1): positive, a multiple of each, and a divisor of every common multiple
pub record IsLcm (f : ℕ → ℕ) (n m : ℕ) : Type 0 where
  pub positive : 0 < m
  pub multiple : (k : ℕ) → k < n → f k ∣ m
  pub least : (c : ℕ) → ((k : ℕ) → k < n → f k ∣ c) → m ∣ c
