-- Pieces one after another.
use Rattle.std.specs.Prelude.{ℕ, ◌≡◌, List, [], ◌∷◌, ◌++◌}
use Rattle.decimal.specs.Decimal.{field}

-- a piece for each element of a list
unfoldable pub joined : {A : Type 0} → (A → List ℕ) → List A → List ℕ
joined piece [] = []
joined piece (x ∷ xs) = piece x ++ joined piece xs

-- numbers, with a space before each
abbrev pub fields : List ℕ → List ℕ
fields xs = joined field xs

-- A conversion into a number gives what f says.
abbrev pub Converts : {A : Type 0} → (A → ℕ → Type 0) → (A → ℕ) → Type 0
Converts Gives f = (x : _) (y : ℕ) → Gives x y → y ≡ f x
