-- Sums of demands, all of them and those of one choice.
use Rattle.std.specs.Prelude.{ℕ, ◌+◌, cond, List, [], ◌∷◌, eqb}
use Rattle.numbers.specs.Sums.{sum_over}

-- the demand of the tasks whose choice is c: the load of core c, and for c = 0 the rejected demand
unfoldable pub demand_on : ℕ → List ℕ → List ℕ → ℕ
demand_on c [] p = 0
demand_on c (w ∷ ws) [] = 0
demand_on c (w ∷ ws) (x ∷ p) = cond (eqb x c) w 0 + demand_on c ws p

-- the sum of a list
abbrev pub sum : List ℕ → ℕ
sum ws = sum_over (λ w. w) ws
