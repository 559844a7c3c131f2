-- The rows of twins that the walk is given.
use Rattle.std.specs.Prelude.{ℕ, ◌+◌, ◌/◌, ◌%◌, Bool, false, List}
use Rattle.numbers.specs.Rows.{row}
use Rattle.allocation.specs.Rule.{twins}

-- which cores are twins, as rows of four: entry 4 * c + d is whether cores c + 1 and d + 1 are
unfoldable pub twin_rows : List ℕ → ℕ → List Bool
twin_rows affinity n = row false 16 (λ i. twins affinity n (i / 4 + 1) (i % 4 + 1))
