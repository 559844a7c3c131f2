-- What is written in the new form is read back, and what was read is written back as it was.
use Prim.Native.Nat.{ℕ, ◌+◌, ◌*◌, ◌≤◌, ◌<◌}
use mathlib.Core.Path.{◌≡◌, refl, sym, ◌∙◌}
use mathlib.Core.List.{List, [], ◌∷◌, ◌++◌, append_assoc}
use lib.ListN.{length, get_or, take, drop, length-append, length-drop}
use lib.Seq.{take_all, drop-cons, get_or-take, get_or-append-add}
use native.Mathlib.Omega.{arith}
use Rattle.numbers.specs.Rows.{row, tab}
use Rattle.numbers.proofs.RowLaws.{row_cong, row_again, take-row_tab}
use Rattle.wire.specs.Bytes.{word_at, byte_at, bytes_of_all, Bytes}
use Rattle.wire.proofs.ReadBackLaws.{read_back, byte-front, word_front}
use Rattle.wire.proofs.WriteBackLaws.{words_back, row_back, part_back, front_long, front_bytes, front_words}
use Rattle.fields.specs.Fields.{period_at, budget_at, affinity_at, cut}
use Rattle.fields.specs.Limits.{Within}
use Rattle.fields.specs.declared.Fields.{Fields}
use Rattle.fields.proofs.LimitLaws.{periods_there, budgets_there, affinity_there}
use Rattle.newform.specs.Form.{task_count, new_fields, new_bytes, NewForm}
use Rattle.newform.specs.Limits.{ValidNew}

module _ (f : Fields) (w : Within f) where
  abbrev P : List ℕ
  P = bytes_of_all (take f.n f.periods)

  abbrev B : List ℕ
  B = bytes_of_all (take f.n f.budgets)

  abbrev A : List ℕ
  A = take f.n f.affinity

  periods_read : (k : ℕ) → k < f.n → word_at (new_bytes f) 4 k ≡ period_at f k
  unfolding new_bytes
  periods_read k h =
      (read_back (take f.n f.periods) (front_words f.periods (periods_there f w) (λ j b. omega (arith, (w.periods j b).1)))).each
      (0 ∷ f.n ∷ f.m ∷ f.charge ∷ []) (B ++ A) k (rw (front_long f.periods (periods_there f w)) h)
      ∙ get_or-take f.n f.periods k 0 h

  budgets_read : (k : ℕ) → k < f.n → word_at (new_bytes f) (4 + 4 * f.n) k ≡ budget_at f k
  unfolding new_bytes
  budgets_read k h =
      let at : 4 + 4 * f.n ≡ length (0 ∷ f.n ∷ f.m ∷ f.charge ∷ P) = omega (arith, front_bytes f.periods (periods_there f w)) in
      rw at ((read_back (take f.n f.budgets) (front_words f.budgets (budgets_there f w) (λ j b. omega (arith, (w.budgets j b).1, (w.periods j b).1)))).each
      (0 ∷ f.n ∷ f.m ∷ f.charge ∷ P) A k (rw (front_long f.budgets (budgets_there f w)) h))
      ∙ get_or-take f.n f.budgets k 0 h

  affinity_read : (k : ℕ) → k < f.n → byte_at (new_bytes f) (4 + 8 * f.n) k ≡ affinity_at f k
  unfolding new_bytes byte_at
  affinity_read k h =
      let at : 4 + 8 * f.n ≡ length (0 ∷ f.n ∷ f.m ∷ f.charge ∷ (P ++ B)) =
      omega (arith, length-append P B, front_bytes f.periods (periods_there f w), front_bytes f.budgets (budgets_there f w)) in
      rw (← append_assoc P B A, at) (get_or-append-add (0 ∷ f.n ∷ f.m ∷ f.charge ∷ (P ++ B)) A k 0)
      ∙ get_or-take f.n f.affinity k 0 h

  -- Fields that were written are read back, cut at n.
  pub new_read_back : new_fields (new_bytes f) ≡ cut f
  unfolding new_fields new_bytes cut
  new_read_back = λ i. record {
    n = f.n;
    m = f.m;
    charge = f.charge;
    periods = row_cong 0 f.n _ _ periods_read i;
    budgets = row_cong 0 f.n _ _ budgets_read i;
    affinity = row_cong 0 f.n _ _ affinity_read i;
    given = f.n;
  }

  -- the length of what is written
  pub new_long : length (new_bytes f) ≡ 4 + 9 * f.n
  unfolding new_bytes
  new_long =
      omega (
        arith,
        length-append P (B ++ A),
        length-append B A,
        front_bytes f.periods (periods_there f w),
        front_bytes f.budgets (budgets_there f w),
        front_long f.affinity (affinity_there f w),
      )

  -- each of them stands in its place, whatever stands behind
  pub new_form : (behind : List ℕ) → NewForm f (new_bytes f ++ behind)
  unfolding new_bytes word_at byte_at
  new_form behind = record {
    first = refl;
    tasks = refl;
    cores = refl;
    charge = refl;
    periods = λ k h. word_front (new_bytes f) behind (4 + 4 * k) (omega (arith, new_long)) ∙ periods_read k h;
    budgets = λ k h. word_front (new_bytes f) behind (4 + 4 * f.n + 4 * k) (omega (arith, new_long)) ∙ budgets_read k h;
    affinity = λ k h. byte-front (new_bytes f) behind (4 + 8 * f.n + k) (omega (arith, new_long)) ∙ affinity_read k h;
  }

-- A table that was read is written back as it was.
module _ (s : List ℕ) (small : Bytes s) (v : ValidNew s) where
  abbrev n : ℕ
  n = task_count s

  row_of : (g : ℕ → ℕ) → take n (row 0 n g) ≡ tab n g
  unfolding new_fields
  row_of g = take-row_tab n g v.fields.sizes.tasks.1

  parts : take (4 * n) (drop 4 s) ++ (take (4 * n) (drop (4 + 4 * n) s) ++ take n (drop (4 + 8 * n) s)) ≡ drop 4 s
  parts =
      let behind : 4 + 4 * n + 4 * n ≡ 4 + 8 * n = omega arith in
      rw (take_all n (drop (4 + 8 * n) s) (rw length-drop (omega (arith, v.exact))), ← behind, part_back s (4 * n) (4 + 4 * n), part_back s (4 * n) 4)

  whole : s ≡ 0 ∷ get_or s 1 0 ∷ get_or s 2 0 ∷ get_or s 3 0 ∷ drop 4 s
  whole =
      drop-cons s 0 0 (omega (arith, v.exact))
      ∙ rw (v.first, drop-cons s 1 0 (omega (arith, v.exact)), drop-cons s 2 0 (omega (arith, v.exact)), drop-cons s 3 0 (omega (arith, v.exact)))

  pub new_write_back : new_bytes (new_fields s) ≡ s
  unfolding new_bytes new_fields
  new_write_back =
      rw (
        row_of (word_at s 4),
        row_of (word_at s (4 + 4 * n)),
        row_of (byte_at s (4 + 8 * n)),
        words_back s small n 4 (omega (arith, v.exact)),
        words_back s small n (4 + 4 * n) (omega (arith, v.exact)),
        row_back s small n (4 + 8 * n) (omega (arith, v.exact)),
        parts,
      )
      (sym whole)

-- Fields that were read are cut at n.
pub cut_read : (s : List ℕ) → task_count s ≤ 16 → cut (new_fields s) ≡ new_fields s
unfolding cut new_fields
cut_read s few = λ i. record {
  n = task_count s;
  m = get_or s 2 0;
  charge = get_or s 3 0;
  periods = row_again (task_count s) (word_at s 4) few i;
  budgets = row_again (task_count s) (word_at s (4 + 4 * task_count s)) few i;
  affinity = row_again (task_count s) (byte_at s (4 + 8 * task_count s)) few i;
  given = task_count s;
}
