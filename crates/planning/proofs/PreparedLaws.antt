-- A checked task set in planning order is the table's problem in that order.
use Prim.Native.Nat.{ℕ, ◌≤◌, zero-le}
use mathlib.Core.Path.{◌≡◌, ◌∙◌, ap}
use mathlib.Core.List.{List}
use lib.ListN.{get_or, take}
use Rattle.numbers.specs.Reorder.{gather, scatter}
use Rattle.numbers.specs.Rows.{row, entry, tab, padded}
use Rattle.numbers.specs.Sorting.{sorted}
use Rattle.numbers.proofs.ReorderLaws.{scatter-padded}
use Rattle.numbers.proofs.RowLaws.{row-each}
use Rattle.fields.specs.Fields.{affinity_at}
use Rattle.fields.specs.Hyperperiod.{hyperperiod_of}
use Rattle.taskset.specs.Demands.{demand_of}
use Rattle.taskset.specs.Reading.{task_set_of}
use Rattle.taskset.specs.Promise.{Checked}
use Rattle.taskset.proofs.DemandLaws.{demand_range, hyperperiod_held}
use Rattle.taskset.specs.declared.TaskSet.{TaskSet}
use Rattle.allocation.specs.Placement.{problem_of}
use Rattle.allocation.specs.TableOrder.{in_planning_order}
use Rattle.ordering.specs.Order.{precedes, planning_order}
use Rattle.ordering.proofs.OrderLaws.{planning_front, planning_is}
use Rattle.reorder.specs.Listed.{Listed}
use Rattle.planning.specs.Problem.{table_problem, order_of}
use Rattle.planning.specs.Prepared.{Prepares}
use Rattle.planning.specs.declared.Prepared.{Prepared}
use Rattle.reorder.proofs.ListedLaws.{gathered_tasks, gathered_entries, gathered_each}

module _ {t : TaskSet} (c : Checked t) where
  few : t.fields.n ≤ 16
  few = c.within.sizes.tasks.1

  demands_are : t.demands ≡ row 0 t.fields.n (demand_of t.fields)
  unfolding task_set_of
  demands_are = ap (λ x. x.demands) c.is

  pub demand_small : (k : ℕ) → get_or t.demands k 0 ≤ t.hyperperiod
  demand_small k =
      rw (demands_are, hyperperiod_held c)
      (row-each 0 (λ x. x ≤ hyperperiod_of t.fields) t.fields.n (demand_of t.fields) zero-le (λ j h. (demand_range c.within h).1) k)

  module _ {o : List ℕ} (e : o ≡ planning_order t) where
    pub order_listed : Listed o t.fields.n
    order_listed = record { few = few; each = rw e (planning_is t few).each }

    front : take t.fields.n o ≡ order_of t.fields
    unfolding order_of
    front = rw e (planning_front t few) ∙ ap (λ x. sorted (precedes x) t.fields.n) c.is

    module _ {d : List ℕ} (q : d ≡ row 0 t.fields.n (entry (gather (take t.fields.n o) t.demands)))
        {b : List ℕ} (u : b ≡ row 0 t.fields.n (entry (gather (take t.fields.n o) t.fields.affinity))) where
      problem_is : problem_of t.hyperperiod t.fields.m (take t.fields.n d) (take t.fields.n b)
          ≡ in_planning_order (table_problem t.fields) (order_of t.fields)
      unfolding table_problem
      problem_is =
          let w : take t.fields.n d ≡ gather (order_of t.fields) (tab t.fields.n (demand_of t.fields)) =
          rw (q, demands_are) (gathered_tasks order_listed (demand_of t.fields) ∙ ap (λ l. gather l (tab t.fields.n (demand_of t.fields))) front) in
          let v : take t.fields.n b ≡ gather (order_of t.fields) (tab t.fields.n (affinity_at t.fields)) =
          rw u (gathered_entries order_listed t.fields.affinity ∙ ap (λ l. gather l (tab t.fields.n (affinity_at t.fields))) front) in
          λ i. record { capacity = hyperperiod_held c i; cores = t.fields.m; demands = w i; affinity = v i }

      pub prepared_is : Prepares t o (record { demands = d; affinity = b })
      prepared_is = record {
        listed = order_listed;
        is = front;
        problem = problem_is;
        small = λ k. rw q (gathered_each order_listed (λ x. x ≤ t.hyperperiod) t.demands zero-le (λ j h. demand_small j) k);
      }

-- choices in planning order, put back
pub put_back : {t : TaskSet} {o : List ℕ} {p : Prepared} → Prepares t o p → (q : List ℕ) {found back : List ℕ} → found ≡ padded q
    → back ≡ row 0 t.fields.n (entry (scatter (take t.fields.n o) found)) → back ≡ row 0 t.fields.n (entry (scatter (order_of t.fields) q))
put_back {t} s q {found} z x =
    x
    ∙ ap (λ l. row 0 t.fields.n (entry (scatter l found))) s.is
    ∙ ap (λ l. row 0 t.fields.n (entry (scatter (order_of t.fields) l))) z
    ∙ ap (λ l. row 0 t.fields.n (entry l)) (scatter-padded (order_of t.fields) q)

-- the core bytes in planning order are those of the table
pub bytes_are : {t : TaskSet} {o : List ℕ} {p : Prepared} → Prepares t o p → take t.fields.n p.affinity ≡ gather (order_of t.fields) (tab t.fields.n (affinity_at t.fields))
unfolding table_problem
bytes_are s = ap (λ P. P.affinity) s.problem
