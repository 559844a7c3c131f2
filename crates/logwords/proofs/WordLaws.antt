-- Records in a row of numbers: how many, which, and what storing one changes.
use mathlib.Core.Path.{◌≡◌, refl, sym, ◌∙◌, ap}
use mathlib.Core.List.{List, [], ◌∷◌}
use Prim.Native.Nat.{ℕ, zero, suc, ◌+◌, ◌*◌, ◌/◌, ◌<◌, ◌≤◌}
use native.Mathlib.Omega.{arith}
use native.Mathlib.Nat.{mod-lt, div-add-mod'}
use lib.ListN.{length, set, length-set}
use Rattle.numbers.specs.Rows.{entry}
use Rattle.runs.specs.declared.Run.{Run}
use Rattle.runs.specs.Runs.{run}
use Rattle.runs.specs.Log.{run_at}
use Rattle.logwords.specs.Words.{records_in, stored, with_records}
use Rattle.logwords.specs.Held.{triple, numbers_back, records_held}

-- ---- how many records there are

records_bound : (ws : List ℕ) → (3 * length (records_in ws) ≤ length ws) × (length ws < 3 * length (records_in ws) + 3)
records_bound [] = (omega arith, omega arith)
records_bound (a ∷ []) = (omega arith, omega arith)
records_bound (a ∷ b ∷ []) = (omega arith, omega arith)
records_bound (a ∷ b ∷ c ∷ ws) = let ih = records_bound ws in (omega (arith, ih.0), omega (arith, ih.1))

pub records_count : (ws : List ℕ) → length ws / 3 ≡ length (records_in ws)
records_count ws =
    let b = records_bound ws in
    let three : 0 < 3 = omega arith in
    let m = mod-lt (length ws) three in
    let d = div-add-mod' (length ws) 3 in
    omega (arith, b, m, d)

-- the numbers of record k stand in the row
pub record_inside : (ws : List ℕ) (k : ℕ) → k < length (records_in ws) → 3 * k + 2 < length ws
record_inside ws k h = let b = (records_bound ws).0 in omega (arith, b, h)

-- and stand there while they are stored
pub second_inside : (ws : List ℕ) (k a : ℕ) → k < length (records_in ws) → 3 * k + 1 < length (set ws (3 * k) a)
second_inside ws k a h = let b = record_inside ws k h in rw (length-set ws (3 * k) a) (omega (arith, b))

pub third_inside : (ws : List ℕ) (k a b : ℕ) → k < length (records_in ws) → 3 * k + 2 < length (set (set ws (3 * k) a) (3 * k + 1) b)
third_inside ws k a b h = let i = record_inside ws k h in rw (length-set (set ws (3 * k) a) (3 * k + 1) b, length-set ws (3 * k) a) i

-- ---- which they are

second : (k : ℕ) → 3 * suc k + 1 ≡ suc (suc (suc (3 * k + 1)))
second k = omega arith

third : (k : ℕ) → 3 * suc k + 2 ≡ suc (suc (suc (3 * k + 2)))
third k = omega arith

pub record_at : (ws : List ℕ) (k : ℕ) → k < length (records_in ws) → run (entry ws (3 * k)) (entry ws (3 * k + 1)) (entry ws (3 * k + 2)) ≡ run_at (records_in ws) k
record_at [] k h = absurd (omega (arith, h))
record_at (a ∷ []) k h = absurd (omega (arith, h))
record_at (a ∷ b ∷ []) k h = absurd (omega (arith, h))
record_at (a ∷ b ∷ c ∷ ws) zero h = refl
record_at (a ∷ b ∷ c ∷ ws) (suc k) h = rw (second k, third k, triple k) (record_at ws k (omega (arith, h)))

-- ---- one more is stored

pub stored_holding : (ws : List ℕ) (k : ℕ) (r : Run) → k < length (records_in ws) → stored ws k r ≡ with_records ws (set (records_in ws) k r)
unfolding stored
stored_holding [] k r h = absurd (omega (arith, h))
stored_holding (a ∷ []) k r h = absurd (omega (arith, h))
stored_holding (a ∷ b ∷ []) k r h = absurd (omega (arith, h))
stored_holding (a ∷ b ∷ c ∷ ws) zero r h = rw (triple (length (records_in ws))) (ap (λ (l : List ℕ). r.task ∷ r.first ∷ r.length ∷ l) (sym (numbers_back ws)))
stored_holding (a ∷ b ∷ c ∷ ws) (suc k) r h =
    rw (second k, third k, triple k, triple (length (records_in ws))) (ap (λ (l : List ℕ). a ∷ b ∷ c ∷ l) (stored_holding ws k r (omega (arith, h))))

pub stored_records : (ws : List ℕ) (k : ℕ) (r : Run) → k < length (records_in ws) → records_in (stored ws k r) ≡ set (records_in ws) k r
stored_records ws k r h = ap records_in (stored_holding ws k r h) ∙ records_held ws (set (records_in ws) k r)

pub stored-length : (ws : List ℕ) (k : ℕ) (r : Run) → length (stored ws k r) ≡ length ws
unfolding stored
stored-length ws k r = simp length-set

pub stored-count : (ws : List ℕ) (k : ℕ) (r : Run) → k < length (records_in ws) → length (records_in (stored ws k r)) ≡ length (records_in ws)
stored-count ws k r h = ap (λ (rs : List Run). length rs) (stored_records ws k r h) ∙ length-set (records_in ws) k r
