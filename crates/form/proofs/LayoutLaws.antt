-- What is decoded stands in the bytes where a form has it, and is 0 beyond n.
use Prim.Native.Nat.{ℕ, ◌+◌, ◌*◌, ◌≤◌, ◌<◌}
use mathlib.Core.Path.{◌≡◌, refl, sym, ◌∙◌}
use mathlib.Core.List.{List}
use lib.ListN.{get_or}
use Rattle.numbers.specs.Rows.{row, entry}
use Rattle.numbers.proofs.RowLaws.{get_or-row, row_beyond}
use Rattle.wire.specs.Bytes.{le32, word_at, byte_at}
use Rattle.taskset.specs.Table.{Table, reading_of, Sound}
use Rattle.fields.specs.declared.Fields.{Fields}
use Rattle.taskset.specs.declared.Reading.{Reading}
use Rattle.taskset.proofs.TableLaws.{table_accepts, read_outcome, read_fields}
use Rattle.form.specs.Layout.{fields_at, StandsAt, Bounded, ReadsIn}

-- entry k of a row that is read from `at` on
module _ (s : List ℕ) (at n : ℕ) (few : n ≤ 16) (k : ℕ) (h : k < n) where
  word_stands : le32 s (at + 4 * k) ≡ entry (row 0 n (word_at s at)) k
  unfolding word_at
  word_stands = sym (get_or-row 0 n (word_at s at) k h few)

  pub byte-stands : entry s (at + k) ≡ entry (row 0 n (byte_at s at)) k
  unfolding byte_at
  byte-stands = sym (get_or-row 0 n (byte_at s at) k h few)

pub fields_stand : (s : List ℕ) (at lead charge : ℕ) (affinity : List ℕ) (given : ℕ) → get_or s at 0 ≤ 16 → StandsAt at lead (fields_at s at lead charge affinity given) s
fields_stand s at lead charge affinity given few = record {
  tasks = refl;
  cores = refl;
  periods = word_stands s lead (get_or s at 0) few;
  budgets = word_stands s (lead + 4 * get_or s at 0) (get_or s at 0) few;
}

pub fields_bounded : (s : List ℕ) (at lead charge : ℕ) (affinity : List ℕ) (given : ℕ) → ((k : ℕ) → get_or s at 0 ≤ k → entry affinity k ≡ 0)
    → Bounded (fields_at s at lead charge affinity given)
fields_bounded s at lead charge affinity given beyond = record {
  periods = λ k h. row_beyond 0 (get_or s at 0) _ k h;
  budgets = λ k h. row_beyond 0 (get_or s at 0) _ k h;
  affinity = beyond;
}

-- so a reading says it of every accepted table
pub reads_in : {Form : Fields → List ℕ → Type 0} {t : Table} → Sound t → (s : List ℕ) → (t.Valid → Form t.fields s) → Bounded t.fields
    → {r : Reading} → r ≡ reading_of t → ReadsIn Form s r
reads_in {t = t} sound s form beyond e = record {
  form = λ q. rw (read_fields t e q) (form ((table_accepts sound).0 (sym (read_outcome t e) ∙ q)));
  beyond = λ q. rw (read_fields t e q) beyond;
}
