-- The tests of a table for bus drives are those of its limits and refusals.
use Rattle.std.specs.Prelude.{Ok, Err}
use Prim.Native.Nat.{ℕ, ◌≤◌}
use mathlib.Core.Path.{◌≡◌, refl, sym, ◌∙◌, ap}
use mathlib.Core.List.{List, [], ◌∷◌, ◌++◌}
use lib.ListN.{length, get_or}
use native.Mathlib.Omega.{arith}
use Rattle.refusal.specs.Tests.{◌then◌, in_order}
use Rattle.refusal.specs.Conditions.{Condition, None, Tested}
use Rattle.refusal.specs.Outcome.{Outcome}
use Rattle.refusal.specs.declared.Cause.{Cause}
use Rattle.refusal.proofs.TestLaws.{then_then, then_again, each_accepts, in_order-append, then_first, then_refused, then_accepted}
use Rattle.refusal.proofs.ConditionLaws.{◌and◌, ◌also◌, no_more, join, tested_as, unnamed, unnamed_all}
use Rattle.fields.specs.Tests.{charge_test, periods_test, budgets_test, costs_test, row_test, affinity_test, hyperperiod_test, limit_tests}
use Rattle.fields.specs.Limits.{Sized, Within, charge_above, period_outside, budget_outside, cost_above, row_other, affinity_unfit, multiple_above}
use Rattle.fields.specs.declared.Fields.{Fields}
use Rattle.fields.proofs.LimitLaws.{charge_reported, periods_reported, within_kept, row_every}
use Rattle.profile.specs.Tests.{period_unlisted}
use Rattle.profile.proofs.TestLaws.{list_reported, all_listed, never_above}
use Rattle.taskset.specs.Reading.{reading_by}
use Rattle.taskset.specs.Table.{reading_of, Sound}
use Rattle.taskset.specs.declared.Reading.{Reading}
use Rattle.taskset.proofs.TableLaws.{after-tested}
use Rattle.form.specs.Layout.{ReadsIn}
use Rattle.form.proofs.LayoutLaws.{reads_in}
use Rattle.form.proofs.ShapeLaws.{shape_tested}
use Rattle.newform.specs.Form.{task_count, new_length, new_fields, NewForm}
use Rattle.newform.specs.Limits.{new_shape}
use Rattle.newform.proofs.NewLaws.{front-tested, new_sized, new_form, new_bounded}
use Rattle.bus.specs.Limits.{ValidBus, earlier, bus_conditions, front_tests, bus_tests, bus_outcome, bus}

-- all general limits behind numbers 13, 5 and 22: where these accept, 13 and 5 do the second time
charge_again : (f : Fields) → in_order (front_tests f) ≡ Ok tt → charge_test f ≡ Ok tt
charge_again f e = search (each_accepts (front_tests f) e)

periods_again : (f : Fields) → in_order (front_tests f) ≡ Ok tt → periods_test f ≡ Ok tt
periods_again f e = search (each_accepts (front_tests f) e)

pub all-behind : (shape : Outcome) (f : Fields) → (shape then in_order (front_tests f)) then in_order (limit_tests f) ≡ shape then in_order (bus_tests f)
unfolding in_order
all-behind shape f =
    let rest : List Outcome = budgets_test f ∷ costs_test f ∷ row_test f ∷ affinity_test f ∷ hyperperiod_test f ∷ [] in
    then_then shape _ _
    ∙ ap (λ o. shape then o) (then_again _ _ _ (charge_again f) ∙ then_again _ _ _ (periods_again f) ∙ sym (in_order-append (front_tests f) rest))

-- numbers 13, 5 and 22
abbrev front_limits : Fields → List Condition
front_limits f = charge_above f ∷ period_outside f ∷ period_unlisted f ∷ []

front-limits : (f : Fields) → Tested (None (front_limits f)) (front_limits f) (in_order (front_tests f))
unfolding in_order
front-limits f = record { reports = charge_reported f and periods_reported f and list_reported f and no_more; valid = (λ n. n, λ n. n) }

-- Of number 15 the length of the row of core bytes is not in question, and number 7 is ruled out by the list.
pub bus-tested : (s : List ℕ) → Tested (ValidBus s) (bus_conditions s) (bus_outcome s)
unfolding bus_outcome new_shape new_fields
bus-tested s =
    let f : Fields = new_fields s in
    let first : List Condition = earlier s ++ period_unlisted f ∷ [] in
    unnamed (first ++ budget_outside f ∷ cost_above f ∷ affinity_unfit f ∷ []) (multiple_above f) [] (λ n. never_above f n.1.1.1.1.1.1.1.0)
    (unnamed (first ++ budget_outside f ∷ cost_above f ∷ []) (row_other f) (affinity_unfit f ∷ multiple_above f ∷ []) (λ n. row_every f refl)
    (unnamed_all first (charge_above f ∷ period_outside f ∷ []) (budget_outside f ∷ cost_above f ∷ row_other f ∷ affinity_unfit f ∷ multiple_above f ∷ [])
    (λ n. n.1.1.1.1.1.0 also n.1.1.1.1.1.1.0 also tt)
    (tested_as {A = (((((4 ≤ length s) × (get_or s 0 0 ≡ 0)) × Sized f) × (length s ≡ new_length (task_count s))) × None (front_limits f)) × Within f} (
      λ v. record { general = record { first = v.0.0.0.0.1; exact = v.0.0.1; fields = v.1 }; listed = (all_listed f).0 v.0.1.1.1.0 },
      λ v.
          let w = v.general.fields in
          let n = within_kept f w in
          (((((omega (arith, v.general.exact), v.general.first), w.sizes), v.general.exact), (n.0 also n.1.0 also (all_listed f).1 v.listed also tt)), w),
    )
    (rw (← all-behind (new_shape s f) f) (after-tested f (λ v. v.0.0.1) (join (shape_tested (front-tested s) (new_length (task_count s)) s f) (front-limits f)))))))

pub bus_sound : (s : List ℕ) → Sound (bus s)
unfolding bus
bus_sound s = record { tested = bus-tested s; within = λ v. v.general.fields }

-- ---- the steps of the reader

-- the tests are joined in their order
pub front_refused : {shape o : Outcome} {c : Cause} (f : Fields) → shape ≡ Err c → o ≡ Err c → o ≡ shape then in_order (front_tests f)
front_refused f e p = p ∙ sym (then_refused _ _ _ e)

pub front_accepted : {shape o : Outcome} (f : Fields) → shape ≡ Ok tt → o ≡ in_order (front_tests f) → o ≡ shape then in_order (front_tests f)
front_accepted f e p = p ∙ sym (then_first _ _ e)

-- where they accept, the sizes are right
pub front_sized : (s : List ℕ) (f : Fields) {o shape : Outcome} → o ≡ shape then in_order (front_tests f) → shape ≡ new_shape s f → o ≡ Ok tt → Sized f
front_sized s f p q e = new_sized s f q (then_accepted _ _ (sym p ∙ e)).0

-- what is read by them is the table's reading
pub bus_read : (s : List ℕ) {o shape : Outcome} {f : Fields} {r : Reading} → r ≡ reading_by (o then in_order (limit_tests f)) f → o ≡ shape then in_order (front_tests f)
    → shape ≡ new_shape s f → f ≡ new_fields s → r ≡ reading_of (bus s)
unfolding reading_of bus bus_outcome
bus_read s {shape = shape} {f} h p q e = h ∙ ap (λ x. reading_by (x then in_order (limit_tests f)) f) p ∙ ap (λ x. reading_by x f) (all-behind shape f) ∙ rw (q, e)

pub bus-stored : (s : List ℕ) {r : Reading} → r ≡ reading_of (bus s) → ReadsIn NewForm s r
unfolding bus
bus-stored s e = reads_in (bus_sound s) s (λ v. new_form s v.general) (new_bounded s) e
