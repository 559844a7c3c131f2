-- The fields of a table made of sizes, periods and budgets are these, with what is given beside it; and the steps of the decoder.
use Prim.Native.Nat.{ℕ, ◌+◌, ◌*◌, ◌≤◌, ◌<◌, min}
use mathlib.Core.Path.{◌≡◌, refl, sym, ◌∙◌, ap}
use mathlib.Core.List.{List, [], ◌∷◌, ◌++◌, append-nil}
use mathlib.Core.Logic.{by_cases}
use native.Mathlib.Nat.{zero-add}
use native.Mathlib.Omega.{arith}
use native.Mathlib.Decide.{dec_lt}
use lib.ListN.{length, get_or, replicate, length-append, length-replicate, get_or-replicate, get_or-eq_default}
use Rattle.numbers.specs.Rows.{row, entry, padded}
use Rattle.numbers.proofs.RowLaws.{get_or-row, up_to-below, up_to_above, row_ext, row_cong}
use Rattle.numbers.proofs.ZeroLaws.{get_or-padded}
use Rattle.wire.specs.Bytes.{word_at, byte_at, bytes_of_all}
use Rattle.wire.proofs.ReadBackLaws.{read_back, length-bytes}
use Rattle.affinity.specs.Permitted.{every_core}
use Rattle.fields.specs.Fields.{affinity_at}
use Rattle.oldform.specs.Form.{task_count, core_count, old_fields, beside_fields, every_affinity, alone_fields, old_table, FieldsReadBack}

-- a row that is read back is the list, with zeros up to sixteen
row_read : (xs : List ℕ) {n : ℕ} (f : ℕ → ℕ) → length xs ≤ n → n ≤ 16
    → ((k : ℕ) → k < n → f k ≡ get_or xs k 0) → row 0 n f ≡ padded xs
row_read xs {n} f e few h =
    let long : length (padded xs) ≡ 16 = simp (length-append, length-replicate) (omega arith) in
    sym (row_ext 0 n f (padded xs) long
    (λ k b. get_or-padded xs k
    ∙ by_cases (dec_lt k n)
    (λ l. sym (up_to-below 0 n f k l ∙ h k l))
    (λ l. get_or-eq_default xs 0 (omega arith) ∙ sym (up_to_above 0 n f k (omega arith)))))

pub fields_read_back : FieldsReadBack
unfolding beside_fields
fields_read_back m charge periods budgets affinity few e short p b = λ i. record {
  n = length periods;
  m = m;
  charge = charge;
  periods = there i;
  budgets = here i;
  affinity = row_read affinity (entry affinity) short few (λ k h. refl) i;
  given = length affinity;
}
  where
    there : row 0 (length periods) (word_at (old_table m periods budgets) 2) ≡ padded periods
    there = row_read periods _ (omega arith) few ((read_back periods p).each (length periods ∷ m ∷ []) (bytes_of_all budgets))

    split : old_table m periods budgets ≡ (length periods ∷ m ∷ bytes_of_all periods) ++ (bytes_of_all budgets ++ [])
    split = rw append-nil

    at : 2 + 4 * length periods ≡ length (length periods ∷ m ∷ bytes_of_all periods)
    at = omega (arith, length-bytes periods)

    here : row 0 (length periods) (word_at (old_table m periods budgets) (2 + 4 * length periods)) ≡ padded budgets
    here = row_read budgets _ (omega arith) few (λ k h. rw (split, at) ((read_back budgets b).each (_ ∷ m ∷ bytes_of_all periods) [] k (omega arith)))

-- one byte for each of n tasks
pub same_byte : (n k x : ℕ) {count : ℕ} → count ≡ min n 16 → k < count → x ≡ entry (replicate n x) k
same_byte n k x e h = sym (get_or-replicate n k x 0 (omega arith))

-- Where every core is permitted there is a byte for each task, and it permits every core.
module _ (s : List ℕ) (charge : ℕ) where
  pub every_counted : (beside_fields s charge (every_affinity s)).given ≡ (beside_fields s charge (every_affinity s)).n
  unfolding beside_fields every_affinity
  every_counted = simp length-replicate (omega arith)

  pub every_affinity_fact : (beside_fields s charge (every_affinity s)).n ≤ 16 → (k : ℕ) → k < (beside_fields s charge (every_affinity s)).n
      → affinity_at (beside_fields s charge (every_affinity s)) k ≡ every_core (beside_fields s charge (every_affinity s)).m
  unfolding beside_fields every_affinity
  every_affinity_fact few k h =
      get_or-row 0 (task_count s) (entry (replicate (task_count s) (every_core (core_count s)))) k h few
      ∙ get_or-replicate (task_count s) k (every_core (core_count s)) 0 h

-- a row that is read from its front
pub from_front : (affinity : List ℕ) (n : ℕ) {l : List ℕ} → l ≡ row 0 n (byte_at affinity 0) → l ≡ row 0 n (entry affinity)
unfolding byte_at
from_front affinity n e = e ∙ row_cong 0 n (byte_at affinity 0) (entry affinity) (λ k h. ap (entry affinity) (zero-add k))

-- The fields that the readers decode.
module _ (s : List ℕ) {row16 : List ℕ} where
  pub fields-beside : (charge : ℕ) (affinity : List ℕ) {n : ℕ} → row16 ≡ row 0 n (entry affinity) → n ≡ task_count s
      → old_fields s charge row16 (length affinity) ≡ beside_fields s charge affinity
  unfolding beside_fields
  fields-beside charge affinity p q = rw (p, q)

  pub fields-alone : {byte n m : ℕ} → row16 ≡ row 0 n (entry (replicate n byte)) → byte ≡ every_core m → n ≡ task_count s → m ≡ core_count s
      → old_fields s 0 row16 n ≡ alone_fields s
  unfolding beside_fields every_affinity
  fields-alone p q a b = rw (p, q, b, a, length-replicate)
