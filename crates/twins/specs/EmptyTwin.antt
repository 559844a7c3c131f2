-- What a move of the walk reads of a row of loads and of the rows of twins.
use Rattle.std.specs.Prelude.{ℕ, zero, suc, ◌+◌, ◌*◌, Bool, false, ◌&&◌, ◌||◌, List, eqb, get_or}

-- whether one of the first k loads is 0, and by these rows its core a twin of core c + 1
unfoldable pub some_zero_twin : List ℕ → List Bool → ℕ → ℕ → Bool
some_zero_twin loads rows c zero = false
some_zero_twin loads rows c (suc k) = (eqb (get_or loads k 0) 0 && get_or rows (4 * c + k) false) || some_zero_twin loads rows c k
