-- Planning order and table order: the same loads, the same feasible placements, the same best plan.
use Prim.Native.Nat.{ℕ, ◌≤◌, ◌<◌}
use native.Mathlib.Omega.{arith}
use mathlib.Core.Path.{◌≡◌, refl, sym, ap, ◌∙◌, subst}
use mathlib.Core.Bool.{true}
use mathlib.Core.List.{List}
use mathlib.Core.Logic.{⊎_map}
use lib.ListN.{length, get_or}
use Rattle.numbers.specs.Sorting.{Permutation}
use Rattle.numbers.specs.Reorder.{gather, position, scatter}
use Rattle.numbers.proofs.SortingLaws.{permutation_below}
use Rattle.numbers.proofs.ReorderLaws.{order_long, position_of, get_or-gather, gather_long, scatter_long, gather-scatter, scatter-gather, demand_on-gather, demand_on-scatter}
use Rattle.allocation.specs.Placement.{Problem, permits, Feasible, rejected, load}
use Rattle.allocation.specs.Best.{IsBest}
use Rattle.allocation.specs.EntryRule.{Twins}
use Rattle.allocation.specs.TableOrder.{in_planning_order, BestPlan}

module _ (T : Problem) (order : List ℕ) (perm : Permutation (length T.demands) order) where
  abbrev n : ℕ
  n = length T.demands

  load_gathered : (c : ℕ) (q : List ℕ) → length q ≡ n → load (in_planning_order T order) c (gather order q) ≡ load T c q
  load_gathered c q e = demand_on-gather n order perm c T.demands q refl e

  -- the tasks in planning order are as many
  pub in_planning_order_long : length (in_planning_order T order).demands ≡ n
  in_planning_order_long = gather_long n order perm T.demands

  -- and each demand is at least 1 where each is so in the table
  pub gathered_positive : ((k : ℕ) → k < n → 1 ≤ get_or T.demands k 0)
      → (k : ℕ) → k < length (in_planning_order T order).demands → 1 ≤ get_or (in_planning_order T order).demands k 0
  gathered_positive h k l =
      let b : k < length order = omega (arith, in_planning_order_long, order_long n order perm) in
      rw (get_or-gather order T.demands k b) (h (get_or order k 0) (permutation_below n order perm k b))

  pub feasible_gather : (q : List ℕ) → Feasible T q → Feasible (in_planning_order T order) (gather order q)
  feasible_gather q f = record {
    whole = gather_long n order perm q ∙ sym (gather_long n order perm T.demands);
    core = λ k l. rw (get_or-gather order q k (here k l)) (f.core (get_or order k 0) (task k l));
    permitted = λ k l i.
        rw (get_or-gather order q k (here k l), get_or-gather order T.affinity k (here k l))
        (f.permitted (get_or order k 0) (task k l) (rw (get_or-gather order q k (here k l)) at i));
    fits = λ c i j. rw (load_gathered c q f.whole) (f.fits c i j);
  }
    where
      here : (k : ℕ) → k < length (gather order q) → k < length order
      here k l = omega (arith, gather_long n order perm q, order_long n order perm)

      task : (k : ℕ) → k < length (gather order q) → get_or order k 0 < length q
      task k l = omega (arith, permutation_below n order perm k (here k l), f.whole)

  feasible_back : (q : List ℕ) → length q ≡ n → Feasible (in_planning_order T order) (gather order q) → Feasible T q
  feasible_back q e f = record {
    whole = e;
    core = λ t l. rw (at t l) at (f.core (position order t) (place t l));
    permitted = λ t l i. subst (λ (s : ℕ). permits T s (get_or q t 0) ≡ true) (where_is t l).1
        (rw (at t l, get_or-gather order T.affinity (position order t) (where_is t l).0) at (f.permitted (position order t) (place t l) (rw (at t l) i)));
    fits = λ c i j. rw (load_gathered c q e) at (f.fits c i j);
  }
    where
      where_is : (t : ℕ) → t < length q → (position order t < length order) × (get_or order (position order t) 0 ≡ t)
      where_is t l = position_of n order perm t (omega arith)

      place : (t : ℕ) → t < length q → position order t < length (gather order q)
      place t l = omega (arith, (where_is t l).0, gather_long n order perm q, order_long n order perm)

      at : (t : ℕ) → t < length q → get_or (gather order q) (position order t) 0 ≡ get_or q t 0
      at t l = get_or-gather order q (position order t) (where_is t l).0 ∙ ap (λ (s : ℕ). get_or q s 0) (where_is t l).1

  -- two cores are twins by the tasks in planning order exactly if they are by those of the table
  pub twins-gather : (c d : ℕ) → Twins T c d → Twins (in_planning_order T order) c d
  twins-gather c d t k l =
      let b : k < length order = omega (arith, in_planning_order_long, order_long n order perm) in
      rw (get_or-gather order T.affinity k b) (t (get_or order k 0) (permutation_below n order perm k b))

  pub twins_back : (c d : ℕ) → Twins (in_planning_order T order) c d → Twins T c d
  twins_back c d t k l =
      let w = position_of n order perm k l in
      rw (get_or-gather order T.affinity (position order k) w.0, w.1) at (t (position order k) (omega (arith, w.0, in_planning_order_long, order_long n order perm)))

  -- a placement of every task in planning order
  module _ (p : List ℕ) (f : Feasible (in_planning_order T order) p) where
    pub feasible_long : length p ≡ n
    feasible_long = f.whole ∙ in_planning_order_long

    pub feasible_scatter : Feasible T (scatter order p)
    feasible_scatter = feasible_back (scatter order p) (scatter_long n order perm p) (rw (gather-scatter n order perm p feasible_long) f)

    pub rejected-scatter : rejected T (scatter order p) ≡ rejected (in_planning_order T order) p
    rejected-scatter = demand_on-scatter n order perm 0 T.demands p refl feasible_long

  -- the best plan in planning order, put back into table order, is the table's best plan
  pub best_scatter : (p : List ℕ) → IsBest (in_planning_order T order) p → BestPlan T order (scatter order p)
  best_scatter p b = record {
    feasible = feasible_scatter p b.feasible;
    least = λ q f. omega (arith, b.least (gather order q) (feasible_gather q f), rejects, load_gathered 0 q f.whole);
    first = λ q f e.
        ⊎_map (λ i. ap (scatter order) i ∙ scatter-gather n order perm q f.whole)
        (λ h. rw (gather-scatter n order perm p (feasible_long p b.feasible)) h)
        (b.first (gather order q) (feasible_gather q f) (load_gathered 0 q f.whole ∙ e ∙ rejects));
  }
    where
      rejects : rejected T (scatter order p) ≡ rejected (in_planning_order T order) p
      rejects = rejected-scatter p b.feasible
