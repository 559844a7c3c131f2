-- The order of the tasks, computed: the lowest ready task, again and again.
use Rattle.std.specs.Prelude.{ℕ, zero, suc, Bool, false, not, ◌&&◌, ◌||◌, List, [], ◌∷◌, ◌++◌, eqb}
use Rattle.numbers.specs.First.{first}

-- t stands in the list
unfoldable pub stands : List ℕ → ℕ → Bool
stands [] t = false
stands (x ∷ xs) t = eqb x t || stands xs t

-- task k + 1 feeds t and does not yet stand
unfoldable pub holds_up : (ℕ → ℕ → Bool) → (ℕ → Bool) → ℕ → ℕ → Bool
holds_up f placed t k = f (suc k) t && not (placed (suc k))

-- some task of 1 to n feeds t and does not yet stand
unfoldable pub waits : (ℕ → ℕ → Bool) → ℕ → (ℕ → Bool) → ℕ → Bool
waits f n placed t = not (eqb (first (holds_up f placed t) n) 0)

-- task k + 1 does not yet stand, and all that feed it do
unfoldable pub is_ready : (ℕ → ℕ → Bool) → ℕ → (ℕ → Bool) → ℕ → Bool
is_ready f n placed k = not (placed (suc k)) && not (waits f n placed (suc k))

-- the lowest ready task; 0 if there is none
unfoldable pub next_task : (ℕ → ℕ → Bool) → ℕ → (ℕ → Bool) → ℕ
next_task f n placed = first (is_ready f n placed) n

-- the list with the next task behind it
unfoldable pub with_next : (ℕ → ℕ → Bool) → ℕ → List ℕ → List ℕ
with_next f n placed = placed ++ (next_task f n (stands placed) ∷ [])

-- the first i tasks of the order
unfoldable pub ordered : (ℕ → ℕ → Bool) → ℕ → ℕ → List ℕ
ordered f n zero = []
ordered f n (suc i) = with_next f n (ordered f n i)
