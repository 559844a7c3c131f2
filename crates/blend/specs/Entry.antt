-- What becomes of a row of loads once one entry is changed.
use Rattle.std.specs.Prelude.{ℕ, zero, suc, List, get_or, set}

-- the cores' loads, core 1 first, once that of core c is changed by f; choice 0 is no core
unfoldable pub on_core : (ℕ → ℕ) → List ℕ → ℕ → List ℕ
on_core f loads zero = loads
on_core f loads (suc k) = set loads k (f (get_or loads k 0))
