-- The tests of a table in the new form are those of its limits and refusals, and what its reader is promised.
use Rattle.std.specs.Prelude.{Ok}
use Prim.Native.Nat.{ℕ, ◌+◌, ◌*◌, ◌≤◌}
use mathlib.Core.Path.{◌≡◌, refl, ◌∙◌, ap₂}
use mathlib.Core.List.{List, [], ◌∷◌, ◌++◌}
use lib.ListN.{length, get_or}
use native.Mathlib.Omega.{arith}
use Rattle.numbers.specs.Rows.{row}
use Rattle.numbers.proofs.BoundLaws.{unequal_exactly, not_unequal}
use Rattle.numbers.proofs.RowLaws.{row_beyond}
use Rattle.wire.specs.Bytes.{byte_at}
use Rattle.refusal.specs.Tests.{◌then◌, in_order}
use Rattle.refusal.specs.Conditions.{Tested}
use Rattle.refusal.specs.declared.Cause.TheVariants.{FirstByte}
use Rattle.refusal.specs.Outcome.{Outcome}
use Rattle.refusal.proofs.ConditionLaws.{join, one-tested, tested_as, unnamed}
use Rattle.taskset.specs.Reading.{reading_by}
use Rattle.fields.specs.Tests.{limit_tests}
use Rattle.fields.specs.Limits.{Sized, sizes, charge_above, period_outside, budget_outside, cost_above, row_other, affinity_unfit, multiple_above}
use Rattle.taskset.specs.Promise.{Reads}
use Rattle.taskset.specs.Table.{reading_of, Decided, Sound}
use Rattle.fields.specs.declared.Fields.{Fields}
use Rattle.taskset.specs.declared.Reading.{Reading}
use Rattle.fields.proofs.LimitLaws.{row_every}
use Rattle.taskset.proofs.TableLaws.{read_decided, read_reads}
use Rattle.form.specs.Shape.{short_test, too_short, other_length, shape_outcome, form_outcome}
use Rattle.form.specs.Layout.{fields_at, Bounded, ReadsIn}
use Rattle.form.proofs.ShapeLaws.{short_tested, form_tested, shape_says}
use Rattle.form.proofs.LayoutLaws.{byte-stands, fields_stand, fields_bounded, reads_in}
use Rattle.newform.specs.Form.{first_byte, task_count, charge_byte, new_length, new_fields, NewForm}
use Rattle.newform.specs.Limits.{ValidNew, first_test, first_other, new_conditions, new_shape, new_outcome, new}

-- the leading bytes: numbers 1 and 17
pub front-tested : (s : List ℕ) → Tested ((4 ≤ length s) × (get_or s 0 0 ≡ 0)) (too_short 4 s ∷ first_other s ∷ []) (short_test 4 s then first_test s)
front-tested s = join (short_tested 4 s) (one-tested FirstByte refl (unequal_exactly (first_byte s) 0) (not_unequal _ _, λ e n. n e))

-- Of number 15 the length of the row of core bytes is not in question.
pub new-tested : (s : List ℕ) → Tested (ValidNew s) (new_conditions s) (new_outcome s)
unfolding new_outcome new_shape new_fields form_outcome
new-tested s =
    let f : Fields = new_fields s in
    unnamed (too_short 4 s ∷ first_other s ∷ sizes f ++ other_length (new_length (task_count s)) s ∷ charge_above f ∷ period_outside f ∷ budget_outside f ∷ cost_above f ∷ []) (row_other f)
    (affinity_unfit f ∷ multiple_above f ∷ []) (λ n. row_every f refl)
    (tested_as (
      λ v. record { first = v.0.0.0.1; exact = v.0.1; fields = v.1 },
      λ v. ((((omega (arith, v.exact), v.first), v.fields.sizes), v.exact), v.fields),
    )
    (form_tested (front-tested s) (new_length (task_count s)) s f))

pub new_sound : (s : List ℕ) → Sound (new s)
unfolding new
new_sound s = record { tested = new-tested s; within = λ v. v.fields }

-- ---- the reader

-- each part of an accepted table stands at its place
pub new_form : (s : List ℕ) → ValidNew s → NewForm (new_fields s) s
unfolding new_fields
new_form s v =
    let few = v.fields.sizes.tasks.1 in
    let bytes = row 0 (task_count s) (byte_at s (4 + 8 * task_count s)) in
    let stands = fields_stand s 1 4 (charge_byte s) bytes (task_count s) few in
    record {
      first = v.first;
      tasks = stands.tasks;
      cores = stands.cores;
      charge = refl;
      periods = stands.periods;
      budgets = stands.budgets;
      affinity = byte-stands s (4 + 8 * task_count s) (task_count s) few;
    }

pub new_bounded : (s : List ℕ) → Bounded (new_fields s)
unfolding new_fields
new_bounded s = fields_bounded s 1 4 (charge_byte s) _ _ (λ k h. row_beyond 0 (task_count s) _ k h)

pub new-stored : (s : List ℕ) {r : Reading} → r ≡ reading_of (new s) → ReadsIn NewForm s r
unfolding new
new-stored s e = reads_in (new_sound s) s (new_form s) (new_bounded s) e

-- the steps of the decoder and of the reader
pub new_decoded : (s : List ℕ) {n charge : ℕ} {affinity : List ℕ} {f : Fields} → f ≡ fields_at s 1 4 charge affinity n → n ≡ task_count s → charge ≡ charge_byte s
    → affinity ≡ row 0 n (byte_at s (4 + 8 * n)) → f ≡ new_fields s
unfolding new_fields
new_decoded s e p q a = e ∙ rw (a, p, q)

pub new_shaped : (s : List ℕ) (f : Fields) {o front : Outcome} {n : ℕ} → o ≡ shape_outcome front (new_length n) s f
    → front ≡ short_test 4 s then first_test s → n ≡ task_count s → o ≡ new_shape s f
unfolding new_shape
new_shaped s f h p q = h ∙ ap₂ (λ x (k : ℕ). shape_outcome x (new_length k) s f) p q

pub new_sized : (s : List ℕ) (f : Fields) {o : Outcome} → o ≡ new_shape s f → o ≡ Ok tt → Sized f
unfolding new_shape
new_sized s f = shape_says (short_test 4 s then first_test s) (new_length (task_count s)) s f

pub new_read : (s : List ℕ) {o : Outcome} {f : Fields} {r : Reading} → r ≡ reading_by (o then in_order (limit_tests f)) f → o ≡ new_shape s f → f ≡ new_fields s
    → (r ≡ reading_of (new s)) × (Decided (new s) r.outcome × (Reads r × ReadsIn NewForm s r))
unfolding reading_of new new_outcome
new_read s {r = r} h p e =
    let t : r ≡ reading_of (new s) = h ∙ rw (p, e) in
    (t, (read_decided _ t (new_sound s), (read_reads _ t (new_sound s), new-stored s t)))
