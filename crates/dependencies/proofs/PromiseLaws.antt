-- The check of a dependency list keeps what is promised of it.
use Rattle.std.specs.Prelude.{Ok, Err}
use Prim.Native.Nat.{ℕ, ◌-◌, ◌≤◌}
use mathlib.Core.Path.{◌≡◌, refl, sym, ◌∙◌, ap}
use mathlib.Core.Bool.{Bool}
use mathlib.Core.List.{List}
use mathlib.Core.Logic.{inl, inr, ⊎_elim}
use lib.ListN.{length, length-append, length-replicate}
use native.Mathlib.Omega.{arith}
use Rattle.numbers.specs.Rows.{padded}
use Rattle.refusal.specs.Causes.{number_of, place_of}
use Rattle.refusal.specs.Tests.{in_order}
use Rattle.refusal.specs.Conditions.{First}
use Rattle.refusal.specs.declared.Cause.{Cause}
use Rattle.refusal.specs.Outcome.{Outcome}
use Rattle.refusal.proofs.CauseLaws.{number_range}
use Rattle.refusal.proofs.TestLaws.{accepted≢refused, then_first, then_refused, by_accepted, by_refused, by_both, by_says}
use Rattle.refusal.proofs.ConditionLaws.{decides, first_either, Numbers, first_number}
use Rattle.fields.specs.declared.Fields.{Fields}
use Rattle.taskset.specs.declared.Reading.{Reading}
use Rattle.taskset.specs.Table.{Table, reading_of, Decided, Sound}
use Rattle.taskset.proofs.TableLaws.{also_sound, table_accepts, read_outcome, read_fields}
use Rattle.newform.specs.Limits.{new}
use Rattle.precedence.specs.Paths.{LowestOnCircle}
use Rattle.precedence.specs.Order.{IsOrder}
use Rattle.precedence.specs.Sequence.{ordered}
use Rattle.precedence.proofs.CircleLaws.{first_lowest}
use Rattle.precedence.proofs.OrderLaws.{order_unique}
use Rattle.precedence.proofs.SequenceLaws.{ordered_is, ordered-length}
use Rattle.precedence.proofs.WidthLaws.{ordered_cong}
use Rattle.relation.specs.Cells.{edge, Cells}
use Rattle.pairs.specs.Pairs.{feeds}
use Rattle.pairs.specs.Fit.{Feeds}
use Rattle.pairs.proofs.FitLaws.{feeds_exactly, fit_among}
use Rattle.feeding.specs.Tests.{list_tests}
use Rattle.feeding.specs.Limits.{Orderly, list_conditions, fed_by}
use Rattle.feeding.proofs.ListLaws.{all_fit, list_accepts}
use Rattle.dependencies.specs.declared.TaskOrder.{TaskOrder}
use Rattle.dependencies.specs.Order.{refused_order, order_for, order_by, order_of}
use Rattle.dependencies.specs.Promise.{Promise}

-- ---- a list beside fields

module _ (f : Fields) (list : List ℕ) where
  -- of number 21 the place is the lowest task on a circle
  circle_lowest : (number place : ℕ) → First (list_conditions f list) number place → number ≡ 21 → LowestOnCircle (Feeds list) place
  circle_lowest number place (inl a) e = absurd (omega (arith, a.0))
  circle_lowest number place (inr (c, inl a)) e = absurd (omega (arith, a.0))
  circle_lowest number place (inr (c, inr (d, inl a))) e =
      rw a.1.1 (first_lowest (fit_among f.n f.periods list (all_fit f list d)) a.1.2)
  circle_lowest number place (inr (c, inr (d, inr a))) e = absurd a.1

  module _ (o : Orderly f list) where
    order_is : IsOrder (Feeds list) f.n (padded (ordered (feeds list) f.n f.n))
    order_is = ordered_is (feeds_exactly list) (fit_among f.n f.periods list o.fit) o.no_circle

    order-only : f.n ≤ 16 → (other : List ℕ) → length other ≡ 16 → IsOrder (Feeds list) f.n other → other ≡ padded (ordered (feeds list) f.n f.n)
    order-only few other e i = order_unique (fit_among f.n f.periods list o.fit) i order_is (e ∙ sym sixteen)
      where
        sixteen : length (padded (ordered (feeds list) f.n f.n)) ≡ 16
        sixteen =
            length-append (ordered (feeds list) f.n f.n) _
            ∙ omega (arith, ordered-length (feeds list) f.n f.n, length-replicate {A = ℕ} (16 - length (ordered (feeds list) f.n f.n)) 0)

-- ---- a table and a list

-- the answer's outcome is that of the tests
pub by_outcome_lem : (list : List ℕ) (o : Outcome) (f : Fields) → (order_by list o f).outcome ≡ o
unfolding order_by order_for refused_order
by_outcome_lem list o f = by_says refused_order (order_for list) (λ (r : TaskOrder). r.outcome) (λ c. refl) (λ f. refl) o f

module _ {t : Table} (s : Sound t) (below : (number place : ℕ) → First t.conditions number place → number ≤ 18) (list : List ℕ) where
  pub fed_sound : Sound (fed_by t list)
  fed_sound = also_sound s (list_accepts t.fields list)

  order_decided : {r : TaskOrder} → r ≡ order_of t list → Decided (fed_by t list) r.outcome
  unfolding order_of
  order_decided e = rw (e, by_outcome_lem list) (decides fed_sound.tested)

  refused_promise : (c : Cause) → (fed_by t list).outcome ≡ Err c → Promise t list (refused_order c)
  unfolding refused_order
  refused_promise c e = record {
    accepted = (λ z. absurd (omega (arith, (number_range c).0, z)), λ v. absurd (accepted≢refused ((table_accepts fed_sound).1 v) e));
    order = λ z. absurd (omega (arith, (number_range c).0, z));
    only = λ z. absurd (omega (arith, (number_range c).0, z));
    circle = λ z.
        ⊎_elim (λ a. absurd (omega (arith, below _ _ a, z))) (λ a. circle_lowest t.fields list _ _ a.1 z)
        (first_either t.conditions (list_conditions t.fields list) (number_of c) (place_of c) (fed_sound.tested.reports.refused c e));
    refused = λ n. refl;
  }

  accepted_promise : (fed_by t list).outcome ≡ Ok tt → Promise t list (order_for list t.fields)
  unfolding order_for
  accepted_promise e =
      let v = (table_accepts fed_sound).0 e in
      record {
        accepted = (λ z. v, λ v. refl);
        order = λ z. order_is t.fields list v.1;
        only = λ z. order-only t.fields list v.1 (s.within v.0).sizes.tasks.1;
        circle = λ z. absurd (omega arith);
        refused = λ n. absurd (n refl);
      }

  order_promised : {r : TaskOrder} → r ≡ order_of t list → Promise t list r
  unfolding order_of order_by
  order_promised e = rw e (by_both refused_order (order_for list) (Promise t list) (fed_by t list).outcome t.fields refused_promise accepted_promise)

  pub order-all : {r : TaskOrder} → r ≡ order_of t list → (r ≡ order_of t list) × (Decided (fed_by t list) r.outcome × Promise t list r)
  order-all e = (e, (order_decided e, order_promised e))

-- a table of the new form has numbers up to 18
pub new-below : (s : List ℕ) (number place : ℕ) → First (new s).conditions number place → number ≤ 18
unfolding new
new-below s = first_number (λ k. k ≤ 18) (new s).conditions numbers
  where
    numbers : Numbers (λ k. k ≤ 18) (new s).conditions
    numbers = (omega arith, (omega arith, (omega arith, (omega arith, (omega arith, (omega arith, (omega arith, (omega arith, (omega arith, (omega arith, (omega arith, tt)))))))))))

-- ---- the steps of the program

module _ (t : Table) (list : List ℕ) {reading : Reading} (e : reading ≡ reading_of t) where
  pub order_refused : {c : Cause} {r : TaskOrder} → reading.outcome ≡ Err c → r ≡ refused_order c → r ≡ order_of t list
  unfolding order_of order_by
  order_refused q h = h ∙ sym (by_refused refused_order (order_for list) t.fields (then_refused _ _ _ (sym (read_outcome t e) ∙ q)))

  pub order_read : {r : TaskOrder} → reading.outcome ≡ Ok tt → r ≡ order_by list (in_order (list_tests reading.tasks.fields list)) reading.tasks.fields → r ≡ order_of t list
  unfolding order_of
  order_read a h = rw (then_first t.outcome (in_order (list_tests t.fields list)) (sym (read_outcome t e) ∙ a)) (rw (read_fields t e a) at h)

-- by the outcome of the list's tests
module _ (f : Fields) (list : List ℕ) {o : Outcome} (p : o ≡ in_order (list_tests f list)) where
  pub order_no : {c : Cause} {r : TaskOrder} → o ≡ Err c → r ≡ refused_order c → r ≡ order_by list (in_order (list_tests f list)) f
  unfolding order_by
  order_no q h = h ∙ sym (by_refused refused_order (order_for list) f (sym p ∙ q))

  pub order_yes : {cells : List Bool} {order : List ℕ} → o ≡ Ok tt → f.n ≤ 16 → Cells cells (feeds list) → order ≡ padded (ordered (edge cells) f.n f.n)
      → record { outcome = Ok tt; order = order } ≡ order_by list (in_order (list_tests f list)) f
  unfolding order_by order_for
  order_yes {cells} q few s h =
      ap (λ x. record { outcome = Ok tt; order = x }) (h ∙ ap padded (ordered_cong (edge cells) (feeds list) 17 s.at f.n (omega arith) f.n))
      ∙ sym (by_accepted refused_order (order_for list) f (sym p ∙ q))
