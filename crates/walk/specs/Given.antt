-- What the search and the walk are given, and what they return.
use Rattle.std.specs.Prelude.{ℕ, ◌≤◌, ◌<◌, ◌≡◌, Bool, List, get_or, take}
use Rattle.numbers.specs.Rows.{padded}
use Rattle.allocation.specs.Placement.{problem_of, total, excess}
use Rattle.allocation.specs.Walk.{WalkAnswer}
use Rattle.outset.specs.Twins.{twin_rows}
use Rattle.walk.specs.declared.Found.{Found}

-- The ranges of the arguments: n demands at the front of a row of sixteen, m cores, and the hyperperiod h.
pub record Ranges (demands : List ℕ) (n m h : ℕ) : Type 0 where
  pub some : 0 < n
  pub few : n ≤ 16
  pub one_core : 1 ≤ m
  pub few_cores : m ≤ 4
  pub small : h ≤ 1000000
  pub each : (k : ℕ) → get_or demands k 0 ≤ h

-- The ranges, with the twins, the total demand and the excess computed.
pub record Prepared (demands affinity : List ℕ) (twins : List Bool) (n m h sum over : ℕ) : Type 0 where
  pub ranges : Ranges demands n m h
  pub twins_are : twins ≡ twin_rows affinity n
  pub total_is : sum ≡ total (problem_of h m (take n demands) (take n affinity))
  pub excess_is : over ≡ excess (problem_of h m (take n demands) (take n affinity))

-- the walk's answer as it is returned
unfoldable pub found_of : WalkAnswer → Found
found_of a = record { placement = padded a.placement; rejected = a.rejected; steps = a.steps; spent = a.spent }
