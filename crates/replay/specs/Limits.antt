-- The refusals of expanding a log, as plain statements in the order of their tests.
use Rattle.std.specs.Prelude.{ℕ, ◌<◌, ◌≡◌, List, [], ◌∷◌, ◌≢◌, length}
use Rattle.refusal.specs.Conditions.{Condition, only, at}
use Rattle.runs.specs.declared.Run.{Run}
use Rattle.runs.specs.Log.{lengths_before, Unfit}

-- The records can be expanded into so many bytes: none is unfit, and the lengths add up to their number.
pub record Expandable (records : List Run) (room : ℕ) : Type 0 where
  pub fit : (k : ℕ) → k < length records → Unfit records k → ⊥
  pub adds : lengths_before records (length records) ≡ room

-- 25 for the first unfit record, or else for a row of another length than the total
abbrev pub expand_conditions : List Run → ℕ → List Condition
expand_conditions records room =
    at 25 (Unfit records) (length records)
    ∷ only 25 (lengths_before records (length records) ≢ room)
    ∷ []
