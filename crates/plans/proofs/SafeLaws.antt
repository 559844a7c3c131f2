-- A feasible placement of a table's problem is safe, and the stated order is the planning order.
use Prim.Native.Nat.{ℕ, ◌≤◌, ◌<◌}
use mathlib.Core.Path.{◌≡◌, sym, ◌∙◌, ap}
use mathlib.Core.Bool.{cond}
use mathlib.Core.List.{List}
use lib.Dec.{eqb}
use lib.ListN.{length, get_or}
use native.Mathlib.Omega.{arith}
use Rattle.numbers.specs.Rows.{tab, row, entry}
use Rattle.numbers.specs.Sorting.{Permutation}
use Rattle.numbers.specs.Sums.{sum_to}
use Rattle.numbers.proofs.LoadLaws.{share, demand_listed}
use Rattle.numbers.proofs.SumLaws.{sum_to_cong}
use Rattle.numbers.proofs.RowLaws.{row_beyond, length-tab, get_or-tab, get_or-row, take_row}
use Rattle.numbers.proofs.SortingLaws.{permutation_below}
use Rattle.fields.specs.Fields.{affinity_at}
use Rattle.taskset.specs.Demands.{demand_of, load_on}
use Rattle.fields.specs.Limits.{Within}
use Rattle.taskset.specs.Reading.{task_set_of}
use Rattle.fields.proofs.HyperperiodLaws.{hyperperiod_is}
use Rattle.taskset.proofs.DemandLaws.{demand_exact, demand_range}
use Rattle.fields.specs.declared.Fields.{Fields}
use Rattle.planning.specs.Problem.{table_problem, order_of}
use Rattle.ordering.proofs.PlainOrder.{in_order}
use Rattle.ordering.proofs.OrderLaws.{sorted_is}
use Rattle.allocation.specs.Placement.{Feasible, load, rejected}
use Rattle.plans.specs.Safe.{choices_of, ExactDemands, Safe, StatedOrder}

module _ (f : Fields) (w : Within f) where
  few : f.n ≤ 16
  few = w.sizes.tasks.1

  pub demands_long : length (table_problem f).demands ≡ f.n
  unfolding table_problem
  demands_long = length-tab 0 f.n (demand_of f)

  pub stated_order : StatedOrder f
  unfolding order_of task_set_of table_problem
  stated_order = (
    λ i j h g.
        rw (same (entry (order_of f) i) (below i (omega arith)), same (entry (order_of f) j) (below j g))
        (in_order (task_set_of f) (order_of f) (sorted_is (task_set_of f)).sorted i j h g),
    (sorted_is (task_set_of f)).each,
  )
    where
      below : (k : ℕ) → k < length (order_of f) → entry (order_of f) k < f.n
      below = permutation_below f.n (order_of f) (sorted_is (task_set_of f)).each

      same : (k : ℕ) → k < f.n → get_or (tab f.n (demand_of f)) k 0 ≡ get_or (row 0 f.n (demand_of f)) k 0
      same k h = get_or-tab 0 f.n (demand_of f) k h ∙ sym (get_or-row 0 f.n (demand_of f) k h few)

  pub order_permutation : Permutation (length (table_problem f).demands) (order_of f)
  order_permutation = rw demands_long stated_order.1

  -- the load of a placement as a sum over tasks
  pub planned_load : (p : List ℕ) (core : ℕ) → length p ≡ f.n → load (table_problem f) core p ≡ load_on f p core
  unfolding table_problem load_on share
  planned_load p core long =
      let ws = tab f.n (demand_of f) in
      demand_listed core ws p (omega (arith, length-tab 0 f.n (demand_of f)))
      ∙ ap (sum_to (share core ws p)) long
      ∙ sum_to_cong (share core ws p) _ f.n (λ k h. ap (λ x. cond (eqb (entry p k) core) x 0) (get_or-tab 0 f.n (demand_of f) k h))

  pub exact_demands : ExactDemands f
  unfolding table_problem
  exact_demands = record {
    hyperperiod = hyperperiod_is w;
    demand = λ k h. rw (get_or-tab 0 f.n (demand_of f) k h) (demand_exact w h);
    range = λ k h. rw (get_or-tab 0 f.n (demand_of f) k h) (demand_range w h);
  }

  pub positive : (k : ℕ) → k < length (table_problem f).demands → 1 ≤ get_or (table_problem f).demands k 0
  positive k h = (exact_demands.range k (rw demands_long at h)).0

  -- a task's core byte
  pub byte_at : (k : ℕ) → k < f.n → entry (table_problem f).affinity k ≡ affinity_at f k
  unfolding table_problem
  byte_at k h = get_or-tab 0 f.n (affinity_at f) k h

  -- a feasible placement as a row of sixteen
  module _ {p : List ℕ} (g : Feasible (table_problem f) p) where
    long : length p ≡ f.n
    long = g.whole ∙ demands_long

    pub row-choices : choices_of f (row 0 f.n (entry p)) ≡ p
    row-choices = take_row f.n p long few

    pub row_safe : Safe f (row 0 f.n (entry p)) (rejected (table_problem f) p)
    unfolding table_problem
    row_safe = record {
      exact = exact_demands;
      loads = λ core h l. rw (row-choices, ← planned_load p core long) (g.fits core h l);
      feasible = rw row-choices g;
      permitted = λ k h. rw (get_or-row 0 f.n (entry p) k h few) (λ i. rw (byte_at k h) at (g.permitted k (omega (arith, g.whole, demands_long)) i));
      bytes = w.affinities;
      beyond = λ k h. row_beyond 0 f.n (entry p) k h;
      rejects = rw row-choices (planned_load p 0 long);
    }
