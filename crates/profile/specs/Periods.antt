-- The periods of the drive-bus profile.
use Rattle.std.specs.Prelude.{ℕ, ◌<◌, ◌≡◌, Bool, List, [], ◌∷◌, eqb}
use Rattle.numbers.specs.First.{first}
use Rattle.numbers.specs.Rows.{entry}

-- the periods that the bus clock divides into, as the paper lists them
abbrev pub bus_periods : List ℕ
bus_periods = 1 ∷ 2 ∷ 4 ∷ 5 ∷ 8 ∷ 10 ∷ 16 ∷ 20 ∷ 25 ∷ 40 ∷ 50 ∷ 80 ∷ 100 ∷ 125 ∷ 200 ∷ 250 ∷ 400 ∷ 500 ∷ 625 ∷ 1000 ∷ 1250 ∷ 2000 ∷ 2500 ∷ 5000 ∷ 10000 ∷ []

-- entry i of the list is this period
unfoldable pub is_entry : ℕ → ℕ → Bool
is_entry period i = eqb (entry bus_periods i) period

-- the place of a period in the list, from 1; 0 where it is not there
unfoldable pub bus_place : ℕ → ℕ
bus_place period = first (is_entry period) 25

-- The period is in the list.
abbrev pub Listed : ℕ → Type 0
Listed period = (i : ℕ) × (i < 25) × (entry bus_periods i ≡ period)
