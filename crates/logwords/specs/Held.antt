-- A row of numbers holds its records, as `runlog` asks it of a layout.
use Rattle.std.specs.Prelude.{◌≡◌, ℕ, suc, ◌*◌, List, [], ◌∷◌, ◌++◌, length, drop, refl}
use Rattle.std.proofs.Common.{ap, arith}
use Rattle.runs.specs.declared.Run.{Run}
use Rattle.runlog.specs.Rows.{Holding}
use Rattle.logwords.specs.Words.{records_in, numbers_of, with_records}

pub triple : (k : ℕ) → 3 * suc k ≡ suc (suc (suc (3 * k)))
triple k = omega arith

-- with its own records a row is as it was
pub numbers_back : (ws : List ℕ) → with_records ws (records_in ws) ≡ ws
numbers_back [] = refl
numbers_back (a ∷ []) = refl
numbers_back (a ∷ b ∷ []) = refl
numbers_back (a ∷ b ∷ c ∷ ws) = rw (triple (length (records_in ws))) (ap (λ (l : List ℕ). a ∷ b ∷ c ∷ l) (numbers_back ws))

-- behind the last whole record there is none
none_behind : (ws : List ℕ) → records_in (drop (3 * length (records_in ws)) ws) ≡ []
none_behind [] = refl
none_behind (a ∷ []) = refl
none_behind (a ∷ b ∷ []) = refl
none_behind (a ∷ b ∷ c ∷ ws) = rw (triple (length (records_in ws))) (none_behind ws)

records_front : (rs : List Run) (rest : List ℕ) → records_in rest ≡ [] → records_in (numbers_of rs ++ rest) ≡ rs
records_front [] rest e = e
records_front (r ∷ rs) rest e = ap (λ (l : List Run). r ∷ l) (records_front rs rest e)

numbers_behind : (rs : List Run) (rest : List ℕ) → drop (3 * length rs) (numbers_of rs ++ rest) ≡ rest
numbers_behind [] rest = refl
numbers_behind (r ∷ rs) rest = rw (triple (length rs)) (numbers_behind rs rest)

-- and with others it holds those
pub records_held : (ws : List ℕ) (rs : List Run) → records_in (with_records ws rs) ≡ rs
records_held ws rs = records_front rs _ (none_behind ws)

-- records by their numbers, as `runlog` asks it of a row
pub words_hold : Holding records_in with_records
words_hold = record {
  same = numbers_back;
  held = λ ws rs e. records_held ws rs;
  last = λ ws rs ss e.
      let n : length (records_in (with_records ws rs)) ≡ length rs = ap (λ (l : List Run). length l) (records_held ws rs) in
      rw (n, numbers_behind rs (drop (3 * length (records_in ws)) ws));
}
