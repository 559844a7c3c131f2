-- Rows of sixteen entries, of which the first n are used.
use Rattle.std.specs.Prelude.{ℕ, zero, suc, ◌-◌, List, [], ◌∷◌, ◌++◌, cond, ltb, length, get_or, replicate}

-- the list f 0, .., f (w - 1)
unfoldable pub tab : {A : Type 0} → ℕ → (ℕ → A) → List A
tab zero f = []
tab (suc w) f = f 0 ∷ tab w (λ k. f (suc k))

-- f k below n, and z from there on
unfoldable pub up_to : {A : Type 0} → A → ℕ → (ℕ → A) → ℕ → A
up_to z n f k = cond (ltb k n) (f k) z

-- sixteen entries: f k below n, and z from there on
unfoldable pub row : {A : Type 0} → A → ℕ → (ℕ → A) → List A
row z n f = tab 16 (up_to z n f)

-- the entry of a row of numbers
abbrev pub entry : List ℕ → ℕ → ℕ
entry l k = get_or l k 0

-- a list as a row of sixteen: zeros at the end
abbrev pub padded : List ℕ → List ℕ
padded p = p ++ replicate (16 - length p) 0
