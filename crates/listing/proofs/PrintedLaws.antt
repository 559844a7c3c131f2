-- What is printed, by the outcome of the table's tests.
use Rattle.std.specs.Prelude.{Ok, Err}
use Prim.Native.Nat.{ℕ}
use mathlib.Core.Path.{◌≡◌, refl, ◌∙◌, ap}
use mathlib.Core.List.{List, []}
use native.Mathlib.Omega.{arith}
use Rattle.refusal.specs.Causes.{number_of, place_of}
use Rattle.refusal.specs.Tests.{by_outcome}
use Rattle.refusal.specs.declared.Cause.{Cause}
use Rattle.refusal.specs.Outcome.{Outcome}
use Rattle.refusal.proofs.ConditionLaws.{decides, gives_refused}
use Rattle.taskset.specs.Reading.{task_set_of}
use Rattle.fields.specs.declared.Fields.{Fields}
use Rattle.taskset.specs.declared.Reading.{Reading}
use Rattle.taskset.specs.declared.TaskSet.{TaskSet}
use Rattle.taskset.specs.Table.{Table, reading_of, Sound}
use Rattle.taskset.proofs.TableLaws.{table_accepts, read_outcome, read_tasks}
use Rattle.text.specs.Shown.{shown, Appended}
use Rattle.text.specs.declared.Text.{Text}
use Rattle.text.proofs.ClipLaws.{append_whole}
use Rattle.listing.specs.Lines.{refusal_line}
use Rattle.listing.specs.Printed.{printed, Printed}

-- only the lines of an accepted table matter
pub printed-same : (o : Outcome) {a b : List ℕ} → (o ≡ Ok tt → a ≡ b) → printed o a ≡ printed o b
unfolding printed by_outcome
printed-same (Ok _) h = h refl
printed-same (Err cause) h = refl

pub printed_accepted : {o : Outcome} (lines : List ℕ) → o ≡ Ok tt → printed o lines ≡ lines
unfolding printed by_outcome
printed_accepted lines e = rw e

-- a refusal alone
pub none-printed : {o : Outcome} {x : List ℕ} → o ≡ Ok tt → x ≡ [] → x ≡ printed o []
unfolding printed by_outcome
none-printed e p = rw e p

pub refusal_printed : {o : Outcome} {cause : Cause} {t r : Text} → o ≡ Err cause → shown t ≡ []
    → Appended t (refusal_line (number_of cause) (place_of cause)) 50 r → shown r ≡ printed o []
unfolding printed by_outcome
refusal_printed e z p = rw e (append_whole z p (omega arith))

pub in_terms : {t : Table} → Sound t → (lines : List ℕ) {x : List ℕ} → x ≡ printed t.outcome lines → Printed t lines x
unfolding printed by_outcome
in_terms {t} s lines e = record {
  planned = λ v. e ∙ rw ((table_accepts s).1 v);
  refused = λ number place h f.
      let g = gives_refused t.outcome number place h (((decides s.tested).refused number place h).1 f) in
      e ∙ rw (g.1, g.2, g.3);
}

-- ---- from the reader's answer

module _ (t : Table) {g : Reading} (e : g ≡ reading_of t) (lines : List ℕ) {x : List ℕ} {o : Outcome} (q : g.outcome ≡ o) where
  pub printed_refused : {cause : Cause} → o ≡ Err cause → x ≡ printed o [] → x ≡ printed t.outcome lines
  unfolding printed by_outcome
  printed_refused h p = rw (← read_outcome t e, q, h) (p ∙ rw h)

  pub printed_planned : o ≡ Ok tt → x ≡ lines → x ≡ printed t.outcome lines
  unfolding printed by_outcome
  printed_planned h p = p ∙ rw (← read_outcome t e, q, h)

-- the lines of an answer to the task set that was read, whatever the answer and its lines
pub plan_printed : {A : Type 0} (lines : TaskSet → A → List ℕ) (answer : Fields → A) (t : Table) {g : Reading} → g ≡ reading_of t
    → {o : Outcome} {plan : A} {x : List ℕ} → g.outcome ≡ o → o ≡ Ok tt → plan ≡ answer g.tasks.fields → x ≡ lines g.tasks plan
    → x ≡ lines (task_set_of t.fields) (answer t.fields)
unfolding task_set_of
plan_printed lines answer t {g} e q h w p =
    p ∙ ap (λ a. lines g.tasks a) w ∙ ap (λ u. lines u (answer u.fields)) (read_tasks t e (q ∙ h))
