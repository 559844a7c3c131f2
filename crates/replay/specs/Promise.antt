-- What is promised of expanding a log, beside its refusals: in plain words, tick by tick.
use Rattle.std.specs.Prelude.{ℕ, ◌≡◌, List, ◌≢◌, length}
use Rattle.runs.specs.declared.Run.{Run}
use Rattle.runs.specs.Log.{LogOf}

-- These records were expanded into a row that held `before` and now holds `after`, and the call answered this number and this count.
pub record Expands (records : List Run) (before : List ℕ) (number count : ℕ) (after : List ℕ) : Type 0 where
  -- a refusal counts nothing and changes nothing
  pub refused : number ≢ 0 → (count ≡ 0) × (after ≡ before)
  -- the count is the whole row's length, and the records are the log of what it now holds
  pub counts : number ≡ 0 → count ≡ length before
  pub log : number ≡ 0 → LogOf after records
  pub long : length after ≡ length before
