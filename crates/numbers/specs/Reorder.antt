-- Rows in another order and back. `order` lists the tasks, counted from 0, in that order.
use Rattle.std.specs.Prelude.{ℕ, suc, true, false, List, [], ◌∷◌, map, eqb, length, get_or}
use Rattle.numbers.specs.Rows.{tab}

-- a row, put into the order
abbrev pub gather : List ℕ → List ℕ → List ℕ
gather order row = map (λ t. get_or row t 0) order

-- the place of task t in the order
unfoldable pub position : List ℕ → ℕ → ℕ
position [] t = 0
position (s ∷ l) t = elim (eqb s t) [ true ↦ 0 | false ↦ suc (position l t) ]

-- a row in the order, put back by task
unfoldable pub scatter : List ℕ → List ℕ → List ℕ
scatter order row = tab (length order) (λ t. get_or row (position order t) 0)
