-- A relation between the numbers 0 to 16, as a row of 289 cells.
use Rattle.std.specs.Prelude.{ℕ, ◌+◌, ◌*◌, ◌/◌, ◌%◌, ◌<◌, ◌≡◌, Bool, false, ◌&&◌, ◌||◌, List, eqb, length, get_or}

-- what the cells say of a and b
unfoldable pub edge : List Bool → ℕ → ℕ → Bool
edge cells a b = get_or cells (a * 17 + b) false

-- The cells say of the numbers 0 to 16 what f says.
pub record Cells (cells : List Bool) (f : ℕ → ℕ → Bool) : Type 0 where
  pub size : length cells ≡ 289
  pub at : (a b : ℕ) → a < 17 → b < 17 → edge cells a b ≡ f a b

-- the relation with one pair more
unfoldable pub with_pair : (ℕ → ℕ → Bool) → ℕ → ℕ → ℕ → ℕ → Bool
with_pair f a b x y = f x y || (eqb a x && eqb b y)

-- cell c after a step of the closure by way of k
unfoldable pub through_at : List Bool → ℕ → ℕ → Bool
through_at cells k c = get_or cells c false || (get_or cells (c / 17 * 17 + k) false && get_or cells (k * 17 + c % 17) false)
