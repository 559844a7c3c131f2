-- Writing a log: its tests in order, its answer, and every record of the row that was lent.
use Rattle.std.specs.Prelude.{ℕ, ◌≤◌, ◌≡◌, Bool, Result, Ok, Err, List, ltb, length}
use Rattle.numbers.specs.First.{first}
use Rattle.numbers.specs.Rows.{entry}
use Rattle.refusal.specs.Tests.{◌then◌, refuse_if, refuse_at, room_test}
use Rattle.refusal.specs.declared.Cause.TheVariants.{Answer, LogRoom}
use Rattle.refusal.specs.Outcome.{Outcome}
use Rattle.runs.specs.declared.Run.{Run}
use Rattle.runs.specs.declared.Logged.{Logged}
use Rattle.runs.specs.Runs.{runs}
use Rattle.runs.specs.Lent.{logged_by, exit_by}

-- an answer that is above 16
unfoldable pub above_at : List ℕ → ℕ → Bool
above_at answers k = ltb 16 (entry answers k)

-- number 23: there are over 60,000 answers, or else one is above 16
unfoldable pub answers_test : List ℕ → Outcome
answers_test answers = refuse_if (ltb 60000 (length answers)) (Answer 0) then refuse_at (first (above_at answers) (length answers)) Answer

-- number 24, next: the row has fewer records than needed
unfoldable pub write_outcome : List ℕ → ℕ → Outcome
write_outcome answers room = answers_test answers then room_test LogRoom (length (runs answers)) room

-- the answer: how many records were needed, or 0 beside a refusal
unfoldable pub write_answer : List ℕ → ℕ → Logged
write_answer answers room = logged_by (write_outcome answers room) (length (runs answers))

-- every record of the row at exit: the log in front of what stands behind it, or all as it was
unfoldable pub log_after : List ℕ → List Run → List Run
log_after answers records = exit_by records (write_outcome answers (length records)) (runs answers)

-- what one pass over the answers finds: how many records are needed, where none is above 16, or the first that is
abbrev pub Surveyed : List ℕ → Result ℕ ℕ → Type 0
Surveyed answers (Ok needed) = (first (above_at answers) (length answers) ≡ 0) × (needed ≡ length (runs answers))
Surveyed answers (Err place) = (1 ≤ place) × (place ≡ first (above_at answers) (length answers))
