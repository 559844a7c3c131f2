-- The answer for a table keeps what is promised of it.
use Prim.Native.Nat.{ℕ, ◌≤◌, ◌<◌}
use native.Mathlib.Omega.{arith}
use mathlib.Core.Path.{◌≡◌, refl, sym}
use mathlib.Core.List.{List}
use mathlib.Core.Logic.{◌⊎◌, ⊎_map}
use lib.ListN.{length, get_or, take, replicate}
use borrow.Author.Tests.{ltb-true, ltb-false}
use Rattle.numbers.specs.Sorting.{Permutation}
use Rattle.numbers.specs.Reorder.{scatter}
use Rattle.numbers.proofs.BoundLaws.{less_exactly}
use Rattle.numbers.proofs.ReorderLaws.{scatter-none}
use Rattle.allocation.specs.Placement.{Problem, rejected}
use Rattle.allocation.specs.Walk.{Step, LastLeaf, NoLeaf, trace, stored, answer}
use Rattle.allocation.specs.TableOrder.{in_planning_order, BestPlan, table_answer}
use Rattle.allocation.specs.Guarantee.{Guarantee}
use Rattle.allocation.proofs.Steps.{last_stored}
use Rattle.allocation.proofs.Optimal.{none, stored_feasible, stored_best, full_iff}
use Rattle.allocation.proofs.EmptyCores.{tried_redundant}
use Rattle.allocation.proofs.Reorder.{in_planning_order_long, feasible_scatter, rejected-scatter, best_scatter}

module _ (T : Problem) (order : List ℕ) (perm : Permutation (length T.demands) order)
    (positive : (k : ℕ) → k < length T.demands → 1 ≤ get_or T.demands k 0) (limit : ℕ) where
  abbrev P : Problem
  P = in_planning_order T order

  abbrev placed : List ℕ
  placed = scatter order (stored P limit)

  -- the steps made
  abbrev made : List Step
  made = take limit (trace P)

  best : length (trace P) ≤ limit → BestPlan T order placed
  best h = best_scatter T order perm (stored P limit) (stored_best P (tried_redundant P) limit h)

  rejects : rejected P (stored P limit) ≡ rejected T placed
  rejects = sym (rejected-scatter T order perm (stored P limit) (stored_feasible P limit))

  stores : ((p : List ℕ) × LastLeaf made p × (placed ≡ scatter order p)) ⊎ (NoLeaf made × (placed ≡ replicate (length T.demands) 0))
  unfolding stored
  stores =
      ⊎_map (λ l. (stored P limit, l, refl))
      (λ n. (n.0, rw (n.1, in_planning_order_long T order perm) (scatter-none (length T.demands) order perm)))
      (last_stored (none P) made)

  pub guaranteed : Guarantee T order limit (table_answer T order limit)
  unfolding table_answer answer
  guaranteed = record {
    feasible = feasible_scatter T order perm (stored P limit) (stored_feasible P limit);
    rejects = rejects;
    spent = less_exactly limit (length (trace P));
    limited = λ e. omega (arith, ltb-true limit (length (trace P)) e);
    stores = stores;
    complete = λ e. omega (arith, ltb-false limit (length (trace P)) e);
    best = λ e. best (ltb-false limit (length (trace P)) e);
    all = λ e. rw rejects (let b = best (ltb-false limit (length (trace P)) e) in full_iff T positive placed b.feasible b.least);
    short = λ e h q f. omega (arith, rejects, (best (ltb-false limit (length (trace P)) e)).least q f);
  }
