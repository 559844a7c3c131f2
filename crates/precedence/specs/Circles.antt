-- Whether a task lies on a circle, computed: the closure of a relation (Warshall's).
use Rattle.std.specs.Prelude.{ℕ, zero, suc, Bool, ◌&&◌, ◌||◌}

-- from a to b as before, or by way of k
unfoldable pub through : (ℕ → ℕ → Bool) → ℕ → ℕ → ℕ → Bool
through f k a b = f a b || (f a k && f k b)

-- a path leads from a to b on which every task in between is one of 1 to k
unfoldable pub reach : (ℕ → ℕ → Bool) → ℕ → ℕ → ℕ → Bool
reach f zero = f
reach f (suc k) = through (reach f k) (suc k)

-- task k + 1 of n tasks lies on a circle
unfoldable pub circular : (ℕ → ℕ → Bool) → ℕ → ℕ → Bool
circular f n k = reach f n (suc k) (suc k)
