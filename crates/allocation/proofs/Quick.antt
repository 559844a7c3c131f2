-- First fit for a table keeps what is promised of it.
use Prim.Native.Nat.{ℕ, ◌≤◌, min}
use native.Mathlib.Omega.{arith}
use mathlib.Core.Path.{◌≡◌, sym, ap, ◌∙◌}
use mathlib.Core.Bool.{false}
use mathlib.Core.List.{List}
use lib.Dec.{ltb}
use lib.ListN.{length}
use lib.Seq.{take_all}
use borrow.Author.Tests.{le-ltb}
use Rattle.numbers.specs.Sorting.{Permutation}
use Rattle.numbers.specs.Reorder.{gather, scatter}
use Rattle.numbers.proofs.ReorderLaws.{gather_long, gather-scatter, scatter-gather}
use Rattle.allocation.specs.Placement.{Problem, rejected}
use Rattle.allocation.specs.Walk.{trace, stored, stored_after, answer}
use Rattle.allocation.specs.TableOrder.{in_planning_order, table_answer}
use Rattle.allocation.specs.FirstFit.{first_fit, table_fit, FirstDescent, QuickGuarantee}
use Rattle.allocation.proofs.Optimal.{none, stored_falls}
use Rattle.allocation.proofs.Reorder.{in_planning_order_long, feasible_long, feasible_scatter, rejected-scatter}
use Rattle.allocation.proofs.EmptyCores.{tried_redundant}
use Rattle.allocation.proofs.FirstFit.{first_feasible, first_lowest, first-only}
use Rattle.allocation.proofs.Descent.{first-descent}

module _ (T : Problem) (order : List ℕ) (perm : Permutation (length T.demands) order) where
  abbrev P : Problem
  P = in_planning_order T order

  abbrev n : ℕ
  n = length T.demands

  long : length P.demands ≡ n
  long = in_planning_order_long T order perm

  descends : FirstDescent P
  descends = first-descent P (tried_redundant P)

  rejects : rejected T (table_fit T order) ≡ rejected P (first_fit P)
  unfolding table_fit
  rejects = rejected-scatter T order perm (first_fit P) (first_feasible P)

  -- a complete walk has stored the same whatever the limit
  stored_whole : (limit : ℕ) → length (trace P) ≤ limit → stored P limit ≡ stored_after (none P) (trace P)
  unfolding stored
  stored_whole limit h = ap (stored_after (none P)) (take_all limit (trace P) h)

  module _ (z : rejected T (table_fit T order) ≡ 0) (limit : ℕ) (h : n ≤ limit) where
    walk_long : length (trace P) ≡ n
    walk_long = descends.alone (sym rejects ∙ z) ∙ long

    stored_fit : stored P limit ≡ first_fit P
    stored_fit = stored_whole limit (omega (arith, walk_long)) ∙ sym (stored_whole (length P.demands) (omega (arith, walk_long, long))) ∙ descends.stores

    exact_answer : table_answer T order limit ≡ record { placement = table_fit T order; rejected = 0; steps = n; spent = false }
    unfolding table_answer answer table_fit
    exact_answer =
        let s : ltb limit (length (trace P)) ≡ false = le-ltb limit (length (trace P)) (omega (arith, walk_long)) in
        let k : min limit (length (trace P)) ≡ n = omega (arith, walk_long) in
        λ i. record {
          placement = scatter order (stored_fit i);
          rejected = (ap (λ p. rejected P p) stored_fit ∙ sym rejects ∙ z) i;
          steps = k i;
          spent = s i;
        }

  pub quick_guaranteed : QuickGuarantee T order (table_fit T order)
  unfolding table_fit table_answer answer
  quick_guaranteed = record {
    feasible = feasible_scatter T order perm (first_fit P) (first_feasible P);
    lowest = λ k h. rw (gather-scatter n order perm (first_fit P) (feasible_long T order perm (first_fit P) (first_feasible P))) (first_lowest P k (omega (arith, long)));
    only = λ q e a.
        sym (scatter-gather n order perm q e)
        ∙ ap (scatter order) (first-only P (gather order q) (gather_long n order perm q ∙ sym long) (λ k h. a k (omega (arith, long))));
    exact = λ z limit h. exact_answer z limit h;
    descent = ap (scatter order) (ap (stored P) (sym long) ∙ descends.stores);
    later = λ limit h. rw (rejects, ← descends.stores) (stored_falls P limit (length P.demands) (omega (arith, long)));
  }
