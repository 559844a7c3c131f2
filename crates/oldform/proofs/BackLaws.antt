-- What is written in the old form is read back, and what was read is written back as it was.
use Prim.Native.Nat.{ℕ, ◌+◌, ◌*◌, ◌≤◌, ◌<◌}
use mathlib.Core.Path.{◌≡◌, refl, sym, ◌∙◌}
use mathlib.Core.List.{List, [], ◌∷◌, ◌++◌, append-nil}
use lib.ListN.{length, get_or, take, drop, replicate, length-append, length-drop, get_or-replicate}
use lib.Seq.{take_all, drop-cons, get_or-take}
use native.Mathlib.Omega.{arith}
use Rattle.numbers.specs.Rows.{row, tab, entry}
use Rattle.numbers.proofs.RowLaws.{row_cong, row_again, take-row_tab}
use Rattle.wire.specs.Bytes.{word_at, bytes_of_all, Bytes}
use Rattle.wire.proofs.ReadBackLaws.{read_back, word_front}
use Rattle.wire.proofs.WriteBackLaws.{words_back, part_back, front_long, front_bytes, front_words}
use Rattle.affinity.specs.Permitted.{every_core}
use Rattle.fields.specs.Fields.{period_at, budget_at, affinity_at, cut}
use Rattle.fields.specs.Limits.{Within}
use Rattle.fields.specs.declared.Fields.{Fields}
use Rattle.fields.proofs.LimitLaws.{periods_there, budgets_there}
use Rattle.oldform.specs.Form.{task_count, core_count, beside_fields, alone_fields, every_affinity, old_bytes, OldForm}
use Rattle.oldform.specs.Limits.{ValidBeside}
use Rattle.oldform.proofs.FormLaws.{every_counted}

module _ (f : Fields) (w : Within f) where
  abbrev P : List ℕ
  P = bytes_of_all (take f.n f.periods)

  abbrev B : List ℕ
  B = bytes_of_all (take f.n f.budgets)

  periods_read : (k : ℕ) → k < f.n → word_at (old_bytes f) 2 k ≡ period_at f k
  unfolding old_bytes
  periods_read k h =
      (read_back (take f.n f.periods) (front_words f.periods (periods_there f w) (λ j b. omega (arith, (w.periods j b).1)))).each
      (f.n ∷ f.m ∷ []) B k (rw (front_long f.periods (periods_there f w)) h)
      ∙ get_or-take f.n f.periods k 0 h

  budgets_read : (k : ℕ) → k < f.n → word_at (old_bytes f) (2 + 4 * f.n) k ≡ budget_at f k
  unfolding old_bytes
  budgets_read k h =
      let at : 2 + 4 * f.n ≡ length (f.n ∷ f.m ∷ P) = omega (arith, front_bytes f.periods (periods_there f w)) in
      rw (at, ← append-nil B) ((read_back (take f.n f.budgets) (front_words f.budgets (budgets_there f w) (λ j b. omega (arith, (w.budgets j b).1, (w.periods j b).1)))).each
      (f.n ∷ f.m ∷ P) [] k (rw (front_long f.budgets (budgets_there f w)) h))
      ∙ get_or-take f.n f.budgets k 0 h

  -- Fields with charge 0 and every core permitted that were written are read back, cut at n.
  pub old_read_back : f.charge ≡ 0 → ((k : ℕ) → k < f.n → affinity_at f k ≡ every_core f.m) → alone_fields (old_bytes f) ≡ cut f
  unfolding beside_fields every_affinity old_bytes cut
  old_read_back uncharged every = λ i. record {
    n = f.n;
    m = f.m;
    charge = sym uncharged i;
    periods = row_cong 0 f.n _ _ periods_read i;
    budgets = row_cong 0 f.n _ _ budgets_read i;
    affinity = row_cong 0 f.n _ _ (λ k h. get_or-replicate f.n k (every_core f.m) 0 h ∙ sym (every k h)) i;
    given = every_counted (old_bytes f) 0 i;
  }

  -- the length of what is written
  pub old_long : length (old_bytes f) ≡ 2 + 8 * f.n
  unfolding old_bytes
  old_long = omega (arith, length-append P B, front_bytes f.periods (periods_there f w), front_bytes f.budgets (budgets_there f w))

  -- each of them stands in its place, whatever stands behind
  pub old_form : (behind : List ℕ) → OldForm f (old_bytes f ++ behind)
  unfolding old_bytes word_at
  old_form behind = record {
    tasks = refl;
    cores = refl;
    periods = λ k h. word_front (old_bytes f) behind (2 + 4 * k) (omega (arith, old_long)) ∙ periods_read k h;
    budgets = λ k h. word_front (old_bytes f) behind (2 + 4 * f.n + 4 * k) (omega (arith, old_long)) ∙ budgets_read k h;
  }

-- A table that was read is written back as it was, whatever stands beside it.
module _ (s : List ℕ) (small : Bytes s) (charge : ℕ) (affinity : List ℕ) (v : ValidBeside s charge affinity) where
  abbrev n : ℕ
  n = task_count s

  row_of : (g : ℕ → ℕ) → take n (row 0 n g) ≡ tab n g
  unfolding beside_fields
  row_of g = take-row_tab n g v.fields.sizes.tasks.1

  parts : take (4 * n) (drop 2 s) ++ take (4 * n) (drop (2 + 4 * n) s) ≡ drop 2 s
  parts = rw (take_all (4 * n) (drop (2 + 4 * n) s) (rw length-drop (omega (arith, v.exact))), part_back s (4 * n) 2)

  whole : s ≡ get_or s 0 0 ∷ get_or s 1 0 ∷ drop 2 s
  whole = drop-cons s 0 0 (omega (arith, v.exact)) ∙ rw (drop-cons s 1 0 (omega (arith, v.exact)))

  pub old_write_back : old_bytes (beside_fields s charge affinity) ≡ s
  unfolding old_bytes beside_fields
  old_write_back =
      rw (row_of (word_at s 2), row_of (word_at s (2 + 4 * n)), words_back s small n 2 (omega (arith, v.exact)), words_back s small n (2 + 4 * n) (omega (arith, v.exact)), parts)
      (sym whole)

-- The fields of a table that is read by itself are cut at n.
pub cut-alone : (s : List ℕ) → task_count s ≤ 16 → cut (alone_fields s) ≡ alone_fields s
unfolding cut beside_fields every_affinity
cut-alone s few = λ i. record {
  n = task_count s;
  m = get_or s 1 0;
  charge = 0;
  periods = row_again (task_count s) (word_at s 2) few i;
  budgets = row_again (task_count s) (word_at s (2 + 4 * task_count s)) few i;
  affinity = row_again (task_count s) (entry (replicate (task_count s) (every_core (core_count s)))) few i;
  given = sym (every_counted s 0) i;
}
