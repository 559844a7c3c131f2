-- The whole output is the one that the definition gives, and it is what is promised.
use Rattle.std.specs.Prelude.{Ok, Err}
use Prim.Native.Nat.{ℕ, ◌-◌, ◌≤◌, ◌<◌}
use mathlib.Core.Path.{◌≡◌, refl, ◌∙◌, ap, subst}
use mathlib.Core.List.{List, []}
use lib.ListN.{length, get_or, take, drop, length-drop}
use lib.Seq.{take_all}
use native.Mathlib.Omega.{arith}
use Rattle.refusal.specs.Conditions.{First}
use Rattle.refusal.specs.Tests.{by_outcome}
use Rattle.refusal.specs.declared.Cause.{Cause}
use Rattle.refusal.specs.Outcome.{Outcome}
use Rattle.refusal.proofs.TestLaws.{by_accepted}
use Rattle.taskset.specs.Table.{Table, Sound}
use Rattle.taskset.proofs.TableLaws.{table_accepts}
use Rattle.newform.specs.Form.{new_fields}
use Rattle.newform.specs.Limits.{new}
use Rattle.newform.proofs.NewLaws.{new_sound}
use Rattle.precedence.specs.Order.{IsOrder}
use Rattle.pairs.specs.Fit.{Feeds}
use Rattle.feeding.specs.Limits.{Orderly, fed_by}
use Rattle.dependencies.specs.Order.{refused_order, order_for, order_by, order_of}
use Rattle.dependencies.specs.Promise.{Promise}
use Rattle.dependencies.specs.declared.TaskOrder.{TaskOrder}
use Rattle.dependencies.proofs.PromiseLaws.{by_outcome_lem, fed_sound, order-all, new-below}
use Rattle.listing.specs.Printed.{printed}
use Rattle.listing.proofs.PrintedLaws.{printed-same, in_terms}
use Rattle.listing.proofs.BackLaws.{refusal_read}
use Rattle.feedsreport.specs.Split.{split_at, table_in, list_in, Split}
use Rattle.feedsreport.specs.Output.{order_line, order_output_of, feeds_output_of}
use Rattle.feedsreport.specs.Reported.{Reported, FeedsReadBack}
use Rattle.feedsreport.proofs.BackLaws.{order_read, order-there}
use Rattle.feedsreport.proofs.SplitLaws.{split_is}

-- ---- the definition, by the outcome of the tests

module _ (t : Table) (list : List ℕ) where
  -- the line where both are accepted
  abbrev line : List ℕ
  line = order_line t.fields.n (order_for list t.fields).order

  accepted_is : (fed_by t list).outcome ≡ Ok tt → order_of t list ≡ order_for list t.fields
  unfolding order_of order_by
  accepted_is e = by_accepted refused_order (order_for list) t.fields e

  output_is : order_output_of t list ≡ printed (fed_by t list).outcome line
  unfolding order_output_of order_of
  output_is =
      ap (λ o. printed o (order_line t.fields.n (order_of t list).order)) (by_outcome_lem list (fed_by t list).outcome t.fields)
      ∙ printed-same (fed_by t list).outcome (λ e. ap (λ (r : TaskOrder). order_line t.fields.n r.order) (accepted_is e))

-- ---- from the answer to the output: the steps of `order_report`

module _ (t : Table) (list : List ℕ) {r : TaskOrder} (a : r ≡ order_of t list) {o : Outcome} (q : r.outcome ≡ o) {x : List ℕ} where
  pub output_refused : {cause : Cause} → o ≡ Err cause → x ≡ printed o [] → x ≡ order_output_of t list
  unfolding order_output_of printed by_outcome
  output_refused h p = rw (← a, q, h) (p ∙ rw h)

  output_ordered : {n : ℕ} → o ≡ Ok tt → n ≡ t.fields.n → x ≡ order_line n r.order → x ≡ order_output_of t list
  unfolding order_output_of printed by_outcome
  output_ordered h e p = p ∙ rw (← a, q, h, e)

-- byte 1 of a table is the number of its tasks
module _ (table list : List ℕ) {b n : ℕ} (e : b ≡ get_or table 1 0) (p : (n ≡ b) × (n < 256)) where
  tasks_are : n ≡ (new table).fields.n
  unfolding new new_fields
  tasks_are = p.0 ∙ e

  module _ {r : TaskOrder} (w : Promise (new table) list r) {o : Outcome} (q : r.outcome ≡ o) (h : o ≡ Ok tt) where
    tasks_within : (1 ≤ n) × (n ≤ 16)
    tasks_within = let v = w.accepted.0 (rw (q, h)) in rw tasks_are ((new_sound table).within v.0).sizes.tasks

    pub tasks_some : 1 ≤ n
    tasks_some = tasks_within.0

    pub tasks_few : n ≤ 16
    tasks_few = tasks_within.1

  pub output_tasks : {r : TaskOrder} → r ≡ order_of (new table) list → {o : Outcome} → r.outcome ≡ o → o ≡ Ok tt → {x : List ℕ} → x ≡ order_line n r.order → x ≡ order_output_of (new table) list
  output_tasks a q h = output_ordered (new table) list a q h tasks_are

-- ---- what is promised

module _ {t : Table} (s : Sound t) (below : (number place : ℕ) → First t.conditions number place → number ≤ 18) (list : List ℕ) where
  order_is : t.Valid → Orderly t.fields list → IsOrder (Feeds list) t.fields.n (order_for list t.fields).order
  order_is v o =
      let p = (order-all s below list refl).1.1 in
      subst (λ (r : TaskOrder). IsOrder (Feeds list) t.fields.n r.order) (accepted_is t list ((table_accepts (fed_sound s below list)).1 (v, o)))
      (p.order (p.accepted.1 (v, o)))

  reported : {x : List ℕ} → x ≡ order_output_of t list → Reported t list x
  reported e = in_terms (fed_sound s below list) (line t list) (e ∙ output_is t list)

  feeds_read : {x : List ℕ} → Reported t list x → FeedsReadBack t list x
  feeds_read p = record {
    ordered = λ v o.
        let order = (order_for list t.fields).order in
        let i = order_is v o in
        (order, i, rw (p.planned (v, o)) (order_read t.fields.n order (s.within v).sizes.tasks.0 (order-there i)));
    refused = λ value place h f. rw (p.refused value place h f) (refusal_read value place);
  }

-- ---- from the parts to the whole: the clauses of `report`

pub output_split : (input : List ℕ) {end : ℕ} {x : List ℕ} → end ≡ split_at input
    → x ≡ order_output_of (new (take end input)) (take (length input - end) (drop end input)) → x ≡ feeds_output_of input
unfolding feeds_output_of table_in list_in
output_split input {end} e p =
    let rest : take (length input - end) (drop end input) ≡ drop end input = take_all (length input - end) (drop end input) (omega (arith, length-drop end input)) in
    p ∙ ap (λ l. order_output_of (new (take end input)) l) rest ∙ ap (λ k. order_output_of (new (take k input)) (drop k input)) e

pub output_all : (input : List ℕ) {x : List ℕ} → x ≡ feeds_output_of input
    → (x ≡ feeds_output_of input)
    × (Split input (table_in input) (list_in input) × (Reported (new (table_in input)) (list_in input) x × FeedsReadBack (new (table_in input)) (list_in input) x))
unfolding feeds_output_of
output_all input e =
    let s = new_sound (table_in input) in
    let below = new-below (table_in input) in
    let p = reported s below (list_in input) e in
    (e, (split_is input, (p, feeds_read s below (list_in input) p)))
