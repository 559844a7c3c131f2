-- Where the input is split.
use Prim.Native.Nat.{ℕ, ◌+◌, ◌*◌, ◌≤◌, ◌<◌}
use mathlib.Core.Path.{◌≡◌, sym, ◌∙◌}
use mathlib.Core.Bool.{Bool, true, false, ◌||◌, or-true}
use mathlib.Core.List.{List, []}
use mathlib.Core.Logic.{⊎_elim}
use lib.Dec.{ltb}
use lib.ListN.{length, get_or, take, take-append-drop, drop_of_length-le}
use lib.Seq.{take_all, length-take-le}
use native.Mathlib.Omega.{arith}
use borrow.Author.Tests.{ltb-false, lt-ltb, le-ltb}
use Rattle.numbers.specs.Bounds.{outside, Outside}
use Rattle.numbers.proofs.BoolLaws.{true_or_false, or_false_right}
use Rattle.numbers.proofs.BoundLaws.{outside_exactly}
use Rattle.feedsreport.specs.Split.{no_count, too_few, split_at, table_in, list_in, Split}

module _ (input : List ℕ) where
  -- ---- the two tests

  count-other : Outside 1 16 (get_or input 1 0) → no_count input ≡ true
  unfolding no_count
  count-other o = (outside_exactly 1 16 (get_or input 1 0)).1 o

  count_right : 1 ≤ get_or input 1 0 → get_or input 1 0 ≤ 16 → no_count input ≡ false
  unfolding no_count
  count_right some few = rw (le-ltb (get_or input 1 0) 1 some) (le-ltb 16 (get_or input 1 0) few)

  bytes_there : 4 + 9 * get_or input 1 0 ≤ length input → too_few input ≡ false
  unfolding too_few
  bytes_there there = le-ltb (length input) (4 + 9 * get_or input 1 0) there

  bytes_few : length input < 4 + 9 * get_or input 1 0 → too_few input ≡ true
  unfolding too_few
  bytes_few less = lt-ltb (length input) (4 + 9 * get_or input 1 0) less

  -- ---- the end of the table

  ends_input : (no_count input || too_few input) ≡ true → split_at input ≡ length input
  unfolding split_at
  ends_input e = rw e

  ends_tasks : (no_count input || too_few input) ≡ false → split_at input ≡ 4 + 9 * get_or input 1 0
  unfolding split_at
  ends_tasks e = rw e

  -- it is within the input
  pub split_within : {end : ℕ} → end ≡ split_at input → end ≤ length input
  unfolding too_few
  split_within {end} p = ⊎_elim (λ e. omega (arith, ends_input e)) (λ e. omega (arith, ends_tasks e, there e)) (true_or_false (no_count input || too_few input))
    where
      there : (no_count input || too_few input) ≡ false → 4 + 9 * get_or input 1 0 ≤ length input
      there e = ltb-false (length input) (4 + 9 * get_or input 1 0) (or_false_right (no_count input) (too_few input) e)

  pub table_there : {end : ℕ} → end ≡ split_at input → end ≡ length (take end input)
  table_there {end} e = sym (length-take-le end input (split_within e))

  -- ---- the parts

  all_table : (no_count input || too_few input) ≡ true → (table_in input ≡ input) × (list_in input ≡ [])
  unfolding table_in list_in
  all_table e = let all : length input ≤ split_at input = omega (arith, ends_input e) in (take_all (split_at input) input all, drop_of_length-le input all)

  pub split_is : Split input (table_in input) (list_in input)
  unfolding table_in list_in
  split_is = record {
    both = λ some few there.
        let e : split_at input ≡ 4 + 9 * get_or input 1 0 = ends_tasks (rw (count_right some few, bytes_there there)) in
        (take-append-drop (split_at input) input, length-take-le (split_at input) input (omega arith) ∙ e);
    short = λ some few less. all_table (rw (bytes_few less, or-true));
    other = λ o. all_table (rw (count-other o));
  }

-- The step of the program: byte 1 is n, and both are tested.
module _ (input : List ℕ) {b n : ℕ} {o : Bool} (e : b ≡ get_or input 1 0) (p : (n ≡ b) × (n < 256)) (q : o ≡ outside 1 16 n) where
  pub end_input : (o || ltb (length input) (4 + 9 * n)) ≡ true → length input ≡ split_at input
  unfolding no_count too_few
  end_input h = sym (ends_input input (rw (q, p.0, e) at h))

  pub end_tasks : (o || ltb (length input) (4 + 9 * n)) ≡ false → 4 + 9 * n ≡ split_at input
  unfolding no_count too_few
  end_tasks h = rw (p.0, e) (sym (ends_tasks input (rw (q, p.0, e) at h)))
