-- Records in a row of numbers, three a record: task, first tick, length.
use Rattle.std.specs.Prelude.{ℕ, ◌+◌, ◌*◌, List, [], ◌∷◌, ◌++◌, length, drop, set}
use Rattle.runs.specs.declared.Run.{Run}
use Rattle.runs.specs.Runs.{run}
use Rattle.recording.specs.Tests.{log_after}

-- the records of a row of numbers; what stands behind the last whole record is none
abbrev pub records_in : List ℕ → List Run
records_in [] = []
records_in (a ∷ []) = []
records_in (a ∷ b ∷ []) = []
records_in (a ∷ b ∷ c ∷ words) = run a b c ∷ records_in words

-- the numbers of records
abbrev pub numbers_of : List Run → List ℕ
numbers_of [] = []
numbers_of (r ∷ rs) = r.task ∷ r.first ∷ r.length ∷ numbers_of rs

-- the row with record k, counted from 0, stored in it
unfoldable pub stored : List ℕ → ℕ → Run → List ℕ
stored words k r = set (set (set words (3 * k) r.task) (3 * k + 1) r.first) (3 * k + 2) r.length

-- the row with other records in place of its own: their numbers, and what stands behind the last whole record
abbrev pub with_records : List ℕ → List Run → List ℕ
with_records words rs = numbers_of rs ++ drop (3 * length (records_in words)) words

-- every number of the row after the answers were written
unfoldable pub words_after : List ℕ → List ℕ → List ℕ
words_after answers words = with_records words (log_after answers (records_in words))
