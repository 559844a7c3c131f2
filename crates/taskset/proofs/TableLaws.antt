-- What a sound table's reading says, and what a call that goes by it answers.
use Rattle.std.specs.Prelude.{Ok}
use Prim.Native.Nat.{ℕ}
use mathlib.Core.Path.{◌≡◌, refl, sym, ◌∙◌, ap, ap₂}
use mathlib.Core.List.{List, ◌++◌}
use mathlib.Core.Logic.{⊎_elim, ◌↔◌}
use Rattle.refusal.specs.Causes.{number_of, place_of}
use Rattle.refusal.specs.Tests.{◌then◌, in_order, by_outcome}
use Rattle.refusal.specs.Conditions.{Condition, Tested}
use Rattle.refusal.specs.declared.Cause.{Cause}
use Rattle.refusal.specs.Outcome.{Outcome}
use Rattle.refusal.proofs.TestLaws.{outcome_cases, in_order-append, then_accepted, then_refused, by_accepted, by_refused, by_both}
use Rattle.refusal.proofs.ConditionLaws.{then_reports, none-append, join_after, room_tested, decides, accepts}
use Rattle.fields.specs.Tests.{size_tests, limit_tests, fields_outcome}
use Rattle.taskset.specs.Reading.{task_set_of, refused_reading, accepted_reading, reading_by}
use Rattle.fields.specs.Limits.{Sized, Within, limits}
use Rattle.taskset.specs.Promise.{Reads}
use Rattle.taskset.specs.Table.{Table, bare, also, lent, reading_of, Decided, Sound}
use Rattle.fields.specs.declared.Fields.{Fields}
use Rattle.taskset.specs.declared.Reading.{Reading}
use Rattle.fields.proofs.LimitLaws.{limits_reported, limits_kept, within_kept, fields-tested}
use Rattle.taskset.proofs.ReadingLaws.{reading_outcome, reading_promised}

-- The limits of fields, after tests that accept only right sizes.
pub after-tested : (f : Fields) {A : Type 0} {cs : List Condition} {o : Outcome} → (A → Sized f) → Tested A cs o
    → Tested (A × Within f) (cs ++ limits f) (o then in_order (limit_tests f))
after-tested f {cs = cs} sized t = record {
  reports = then_reports cs (limits f) t.reports (λ _. limits_reported f);
  valid = (
    λ n. let r = (none-append cs (limits f)).0 n in let v = t.valid.0 r.0 in (v, limits_kept f (sized v) r.1),
    λ v. (none-append cs (limits f)).1 (t.valid.1 v.0, within_kept f v.1),
  );
}

-- A call's own tests behind those of a sound table; they may take for granted that it is valid.
pub also-after : {t : Table} {tests : Outcome} {Good : Type 0} {more : List Condition} → Sound t → (t.Valid → Tested Good more tests) → Sound (also t tests Good more)
also-after s h = record { tested = join_after s.tested (λ n. h (s.tested.valid.0 n)); within = λ v. s.within v.0 }

pub also_sound : {t : Table} {tests : Outcome} {Good : Type 0} {more : List Condition} → Sound t → Tested Good more tests → Sound (also t tests Good more)
also_sound s h = also-after s (λ v. h)

-- A lent output behind a sound table.
pub lent_sound : {t : Table} → Sound t → (cause : Cause) → place_of cause ≡ 0 → (size room : ℕ) → Sound (lent cause (number_of cause) t size room)
lent_sound s cause z size room = also_sound s (room_tested cause z size room)

-- ---- a sound table

module _ {t : Table} (s : Sound t) where
  -- its tests accept exactly if it is valid
  pub table_accepts : (t.outcome ≡ Ok tt) ↔ t.Valid
  table_accepts = accepts (decides s.tested)

  pub table_within : t.outcome ≡ Ok tt → Within t.fields
  table_within e = s.within (table_accepts.0 e)

  -- what a call answers to a valid one
  pub answer_valid : {A : Type 0} (refuses : Cause → A) (answers : Fields → A) → t.Valid → by_outcome refuses answers t.outcome t.fields ≡ answers t.fields
  answer_valid refuses answers v = by_accepted refuses answers t.fields (table_accepts.1 v)

  -- what holds of every refusal, and of the answer to fields within the limits, holds of what a call answers
  pub answer_both : {A : Type 0} (refuses : Cause → A) (answers : Fields → A) (P : A → Type 0) → ((c : Cause) → P (refuses c)) → (Within t.fields → P (answers t.fields))
      → P (by_outcome refuses answers t.outcome t.fields)
  answer_both refuses answers P n y = by_both refuses answers P t.outcome t.fields (λ c e. n c) (λ e. y (table_within e))

-- ---- its reading

module _ (t : Table) {r : Reading} (e : r ≡ reading_of t) where
  pub read_outcome : r.outcome ≡ t.outcome
  unfolding reading_of
  read_outcome = ap (λ x. x.outcome) e ∙ reading_outcome t.outcome t.fields

  -- an accepted one is the task set of the fields
  pub read_tasks : r.outcome ≡ Ok tt → r.tasks ≡ task_set_of t.fields
  unfolding reading_of reading_by accepted_reading
  read_tasks q = ap (λ x. x.tasks) (e ∙ by_accepted refused_reading accepted_reading t.fields (sym read_outcome ∙ q))

  pub read_fields : r.outcome ≡ Ok tt → r.tasks.fields ≡ t.fields
  unfolding task_set_of
  read_fields q = ap (λ x. x.fields) (read_tasks q)

  pub read_decided : Sound t → Decided t r.outcome
  read_decided s = rw read_outcome (decides s.tested)

  pub read_reads : Sound t → Reads r
  unfolding reading_of
  read_reads s = rw e (reading_promised t.fields t.outcome (table_within s))

  -- a call that goes by the reading goes by the table
  pub read_answer : {A : Type 0} (refuses : Cause → A) (answers : Fields → A) → by_outcome refuses answers r.outcome r.tasks.fields ≡ by_outcome refuses answers t.outcome t.fields
  read_answer refuses answers = rw (← read_outcome) (by_both refuses answers (λ a. a ≡ by_outcome refuses answers r.outcome t.fields) r.outcome r.tasks.fields
      (λ c q. sym (by_refused refuses answers t.fields q))
      (λ q. ap answers (read_fields q) ∙ sym (by_accepted refuses answers t.fields q)))

  -- a call's own test behind the reading's is the one behind the table's; where both accept, the fields are the table's
  module _ (test : Fields → Outcome) {o : Outcome} (p : o ≡ r.outcome then test r.tasks.fields) where
    pub also_read : o ≡ t.outcome then test t.fields
    also_read =
        ⊎_elim
        (λ q. p ∙ ap₂ ◌then◌ read_outcome (ap test (read_fields q)))
        (λ q. p ∙ then_refused _ _ q.0 q.1 ∙ sym (then_refused _ _ q.0 (sym read_outcome ∙ q.1)))
        (outcome_cases r.outcome)

    -- so the reading with the test behind it is that of the table with it
    pub also_reading : (Good : Type 0) (more : List Condition) {q : Reading} → q ≡ reading_by o r.tasks.fields → q ≡ reading_of (also t (test t.fields) Good more)
    unfolding reading_of reading_by
    also_reading Good more h =
        h
        ∙ by_both refused_reading accepted_reading (λ a. a ≡ by_outcome refused_reading accepted_reading o t.fields) o r.tasks.fields
        (λ c x. sym (by_refused refused_reading accepted_reading t.fields x))
        (λ x. ap accepted_reading (read_fields (then_accepted _ _ (sym p ∙ x)).0) ∙ sym (by_accepted refused_reading accepted_reading t.fields x))
        ∙ ap (λ x. by_outcome refused_reading accepted_reading x t.fields) also_read

    pub also_well : o ≡ Ok tt → r.outcome ≡ Ok tt
    also_well q = (then_accepted _ _ (sym p ∙ q)).0

    pub also-fields : o ≡ Ok tt → r.tasks.fields ≡ t.fields
    also-fields q = read_fields (also_well q)

-- a valid table's reading
pub valid_reading : {t : Table} → Sound t → t.Valid → reading_of t ≡ accepted_reading t.fields
unfolding reading_of reading_by
valid_reading s v = answer_valid s refused_reading accepted_reading v

-- tables that read alike get the same answers
pub answers_alike : (t u : Table) → reading_of t ≡ reading_of u → {A : Type 0} (refuses : Cause → A) (answers : Fields → A)
    → by_outcome refuses answers t.outcome t.fields ≡ by_outcome refuses answers u.outcome u.fields
answers_alike t u e refuses answers =
    sym (read_answer t refl refuses answers) ∙ ap (λ r. by_outcome refuses answers r.outcome r.tasks.fields) e ∙ read_answer u refl refuses answers

-- ---- fields by themselves

pub bare_sound : (f : Fields) → Sound (bare f)
unfolding bare
bare_sound f = record { tested = fields-tested f; within = λ w. w }

-- the step of the check: the sizes are tested first, then the limits
pub bare_read : (f : Fields) {o : Outcome} {r : Reading} → o ≡ in_order (size_tests f) → r ≡ reading_by (o then in_order (limit_tests f)) f
    → (r ≡ reading_of (bare f)) × (Decided (bare f) r.outcome × Reads r)
unfolding reading_of bare fields_outcome
bare_read f {r = r} p h =
    let a : r ≡ reading_of (bare f) = h ∙ ap (λ x. reading_by x f) (ap (λ x. x then in_order (limit_tests f)) p ∙ sym (in_order-append (size_tests f) (limit_tests f))) in
    (a, (read_decided _ a (bare_sound f), read_reads _ a (bare_sound f)))
