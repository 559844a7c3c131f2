-- Rows in which records stand, whatever their entries are.
use Rattle.std.specs.Prelude.{◌≡◌, List, length}
use Rattle.runs.specs.declared.Run.{Run}

-- The records of a row, and the row with so many others in their place.
pub record Holding {A : Type 0} (records : List A → List Run) (holding : List A → List Run → List A) : Type 0 where
  -- with its own it is as it was
  pub same : (row : List A) → holding row (records row) ≡ row
  -- its records are then those,
  pub held : (row : List A) (rs : List Run) → length rs ≡ length (records row) → records (holding row rs) ≡ rs
  -- and the last ones put there are those that count
  pub last : (row : List A) (rs ss : List Run) → length rs ≡ length (records row) → holding (holding row rs) ss ≡ holding row ss
