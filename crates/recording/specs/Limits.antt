-- The refusals of writing a log, as plain statements in the order of their tests.
use Rattle.std.specs.Prelude.{ℕ, ◌≤◌, ◌<◌, List, [], ◌∷◌, length}
use Rattle.numbers.specs.Rows.{entry}
use Rattle.refusal.specs.Conditions.{Condition, only, at, no_room}
use Rattle.runs.specs.Log.{needed}

-- The answers can be written into so many records: at most 60,000, none above 16, and no more records needed than there are.
pub record Writable (answers : List ℕ) (room : ℕ) : Type 0 where
  pub few : length answers ≤ 60000
  pub low : (k : ℕ) → k < length answers → entry answers k ≤ 16
  pub fits : needed answers ≤ room

-- 23 for over 60,000 answers, or else for the first above 16; then 24 for fewer records than needed
abbrev pub write_conditions : List ℕ → ℕ → List Condition
write_conditions answers room =
    only 23 (60000 < length answers)
    ∷ at 23 (λ k. 16 < entry answers k) (length answers)
    ∷ no_room 24 (needed answers) room
    ∷ []
