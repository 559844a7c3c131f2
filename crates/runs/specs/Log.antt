-- What a log says of a row of answers, in plain words: record by record, tick by tick.
use Rattle.std.specs.Prelude.{ℕ, suc, ◌+◌, ◌≤◌, ◌<◌, ◌≡◌, cond, List, [], ◌∷◌, ◌≢◌, eqb, length, get_or}
use Rattle.numbers.specs.Rows.{entry}
use Rattle.numbers.specs.Sums.{sum_to}
use Rattle.runs.specs.declared.Run.{Run}

-- record number k of a log, counted from 0; beyond its end one of zeros
abbrev pub run_at : List Run → ℕ → Run
run_at log k = get_or log k (record { task = 0; first = 0; length = 0 })

-- the sum of the lengths before record k
abbrev pub lengths_before : List Run → ℕ → ℕ
lengths_before log k = sum_to (λ j. (run_at log j).length) k

-- how many neighbours differ in a row that begins with b
abbrev pub changes : ℕ → List ℕ → ℕ
changes b [] = 0
changes b (c ∷ xs) = cond (eqb b c) (changes c xs) (suc (changes c xs))

-- how many records answers need: none for none, and else one more than neighbours that differ
abbrev pub needed : List ℕ → ℕ
needed [] = 0
needed (b ∷ xs) = suc (changes b xs)

-- tick t lies in a record
abbrev pub Within : Run → ℕ → Type 0
Within r t = (r.first ≤ t) × (t < r.first + r.length)

-- A tick lies in exactly one record of a log, and that has this task.
pub record Once (log : List Run) (t task : ℕ) : Type 0 where
  pub k : ℕ
  pub there : k < length log
  pub within : Within (run_at log k) t
  pub same : (run_at log k).task ≡ task
  pub only : (j : ℕ) → j < length log → Within (run_at log j) t → j ≡ k

-- The records are the log of the answers: so many as needed, the first from tick 0 on and each other from where the one before ends, none
-- empty, neighbours of different tasks, lengths that add up to the number of answers, and each answer in exactly one of them.
pub record LogOf (answers : List ℕ) (log : List Run) : Type 0 where
  pub needs : length log ≡ needed answers
  pub begins : 1 ≤ length log → (run_at log 0).first ≡ 0
  pub follows : (k : ℕ) → suc k < length log → (run_at log (suc k)).first ≡ (run_at log k).first + (run_at log k).length
  pub lasts : (k : ℕ) → k < length log → 1 ≤ (run_at log k).length
  pub differs : (k : ℕ) → suc k < length log → (run_at log (suc k)).task ≢ (run_at log k).task
  pub adds : lengths_before log (length log) ≡ length answers
  pub holds : (t : ℕ) → t < length answers → Once log t (entry answers t)

-- A record is unfit: its task is above 16, or the same as that of the one before; its length is 0; its first tick is not the sum of the
-- lengths before it; or the sum with its own length is above 60,000.
pub data Unfit (log : List Run) : ℕ → Type 0 where
  strange : {k : ℕ} → 16 < (run_at log k).task → Unfit log k
  repeated : {k : ℕ} → (run_at log (suc k)).task ≡ (run_at log k).task → Unfit log (suc k)
  empty : {k : ℕ} → (run_at log k).length ≡ 0 → Unfit log k
  apart : {k : ℕ} → (run_at log k).first ≢ lengths_before log k → Unfit log k
  late : {k : ℕ} → 60000 < lengths_before log k + (run_at log k).length → Unfit log k
