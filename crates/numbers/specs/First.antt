-- The first index at which a test holds: the paper's "first such task".
use Rattle.std.specs.Prelude.{ℕ, zero, suc, ◌+◌, ◌<◌, ◌≡◌, Bool, cond, Option, None, Some}

-- the first of the k indices from i on at which p holds, counted from 1; 0 if there is none
unfoldable pub first_from : (ℕ → Bool) → ℕ → ℕ → ℕ
first_from p i zero = 0
first_from p i (suc k) = cond (p i) (i + 1) (first_from p (i + 1) k)

-- the first of the indices below n at which p holds, counted from 1; 0 if there is none
unfoldable pub first : (ℕ → Bool) → ℕ → ℕ
first p n = first_from p 0 n

-- what a search hands back: the number of the first such index, or none where that is 0
unfoldable pub found : ℕ → Option ℕ
found zero = None
found (suc k) = Some (suc k)

-- k is the first index below n at which P holds
pub record IsFirst (P : ℕ → Type 0) (n k : ℕ) : Type 0 where
  pub below : k < n
  pub here : P k
  pub none : (j : ℕ) → j < k → P j → ⊥

-- t, counted from 1, is the first such place
abbrev pub FirstAt : (ℕ → Type 0) → ℕ → ℕ → Type 0
FirstAt P n t = (k : ℕ) × (t ≡ suc k) × IsFirst P n k
