-- The paper's limits, by name. Plain statements have the numbers.
use Rattle.std.specs.Prelude.{ℕ}

-- the most tasks and cores of a table
abbrev pub most_tasks : ℕ
most_tasks = 16

abbrev pub most_cores : ℕ
most_cores = 4

-- the greatest charge
abbrev pub most_charge : ℕ
most_charge = 9

-- the longest period
abbrev pub longest_period : ℕ
longest_period = 10000

-- the greatest hyperperiod
abbrev pub most_multiple : ℕ
most_multiple = 1000000
