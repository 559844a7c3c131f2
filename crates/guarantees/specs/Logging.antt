-- The run log: what is demanded of writing and expanding, over the definitions that the calls equal.
use Rattle.std.specs.Prelude.{ℕ, ◌≡◌, List, length, take}
use Rattle.refusal.specs.Causes.{number_in}
use Rattle.refusal.specs.Conditions.{Decides}
use Rattle.runs.specs.declared.Run.{Run}
use Rattle.recording.specs.Tests.{write_answer, log_after}
use Rattle.recording.specs.Limits.{Writable, write_conditions}
use Rattle.recording.specs.Promise.{Writes}
use Rattle.replay.specs.Tests.{expand_answer, row_after}
use Rattle.replay.specs.Limits.{Expandable, expand_conditions}
use Rattle.replay.specs.Promise.{Expands}

-- the number of a call that writes, and of one that expands
abbrev pub write_number : List ℕ → List Run → ℕ
write_number answers records = number_in (write_answer answers (length records)).outcome

abbrev pub expand_number : List Run → List ℕ → ℕ
expand_number records bytes = number_in (expand_answer records (length bytes)).outcome

-- exactly the records that writing needed
abbrev pub needed_of : List ℕ → List Run → List Run
needed_of answers records = take (write_answer answers (length records)).count (log_after answers records)

pub record LogDemand : Type 0 where
  -- 23 and 24 are given exactly as the paper has them, with their places; what is written, and what is not touched.
  pub writing : (answers : List ℕ) (records : List Run) → Decides (Writable answers (length records)) (write_conditions answers (length records)) (write_answer answers (length records)).outcome
      × Writes answers records (write_number answers records) (write_answer answers (length records)).count (log_after answers records)
  -- 25 likewise; what is filled in.
  pub expanding : (records : List Run) (bytes : List ℕ) → Decides (Expandable records (length bytes)) (expand_conditions records (length bytes)) (expand_answer records (length bytes)).outcome
      × Expands records bytes (expand_number records bytes) (expand_answer records (length bytes)).count (row_after records bytes)
  -- Writing, and then expanding exactly the records that were needed into a row of the original length, gives the original bytes.
  pub back : (answers : List ℕ) (records : List Run) (bytes : List ℕ) → write_number answers records ≡ 0 → length bytes ≡ length answers
      → (expand_number (needed_of answers records) bytes ≡ 0) × (row_after (needed_of answers records) bytes ≡ answers)
  -- The other way round: expanding records, and then writing what came into as many, gives the records.
  pub forth : (records : List Run) (bytes : List ℕ) (row : List Run) → expand_number records bytes ≡ 0 → length row ≡ length records
      → (write_number (row_after records bytes) row ≡ 0) × (log_after (row_after records bytes) row ≡ records)
