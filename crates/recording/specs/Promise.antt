-- What is promised of writing a log, beside its refusals: in plain words, record by record.
use Rattle.std.specs.Prelude.{ℕ, ◌≤◌, ◌≡◌, List, ◌≢◌, length, take}
use Rattle.runs.specs.declared.Run.{Run}
use Rattle.runs.specs.Log.{run_at, needed, LogOf}

-- These answers were written into a row that held `before` and now holds `after`, and the call answered this number and this count.
pub record Writes (answers : List ℕ) (before : List Run) (number count : ℕ) (after : List Run) : Type 0 where
  -- a refusal counts nothing and changes nothing
  pub refused : number ≢ 0 → (count ≡ 0) × (after ≡ before)
  -- the count is how many records were needed, and they are the log of the answers
  pub counts : number ≡ 0 → count ≡ needed answers
  pub log : number ≡ 0 → LogOf answers (take (count) after)
  -- the records beyond are untouched
  pub beyond : (k : ℕ) → count ≤ k → run_at after k ≡ run_at before k
  pub long : length after ≡ length before
