-- Sums over a list and over the numbers below n; products.
use Rattle.std.specs.Prelude.{ℕ, zero, suc, ◌+◌, ◌*◌, List, [], ◌∷◌}

-- the sum of f over a list
unfoldable pub sum_over : (ℕ → ℕ) → List ℕ → ℕ
sum_over f [] = 0
sum_over f (x ∷ xs) = f x + sum_over f xs

-- the sum of f over the numbers below n
unfoldable pub sum_to : (ℕ → ℕ) → ℕ → ℕ
sum_to f zero = 0
sum_to f (suc n) = f n + sum_to f n

-- f 1 + .. + f n
abbrev pub sum_from_one : (ℕ → ℕ) → ℕ → ℕ
sum_from_one f n = sum_to (λ k. f (suc k)) n

-- the product of f over the numbers below n
unfoldable pub product_to : (ℕ → ℕ) → ℕ → ℕ
product_to f zero = 1
product_to f (suc n) = f n * product_to f n

-- f 1 * .. * f n
abbrev pub product_from_one : (ℕ → ℕ) → ℕ → ℕ
product_from_one f n = product_to (λ k. f (suc k)) n
