-- The whole output is the one that the definition gives.
use Rattle.std.specs.Prelude.{Ok, Err}
use Prim.Native.Nat.{ℕ}
use mathlib.Core.Path.{◌≡◌, refl, sym, ◌∙◌, ap, ap₂}
use mathlib.Core.List.{List, []}
use native.Mathlib.Omega.{arith}
use Rattle.refusal.specs.declared.Cause.{Cause}
use Rattle.refusal.specs.Outcome.{Outcome}
use Rattle.taskset.specs.Reading.{task_set_of}
use Rattle.fields.specs.declared.Fields.{Fields}
use Rattle.taskset.specs.declared.TaskSet.{TaskSet}
use Rattle.taskset.specs.Table.{Table, reading_of, Sound}
use Rattle.taskset.proofs.TableLaws.{read_outcome, read_tasks}
use Rattle.quick.specs.Quick.{quick_for, quick_of}
use Rattle.quick.specs.declared.QuickPlan.{QuickPlan}
use Rattle.quick.proofs.QuickLaws.{quick_accepted_is}
use Rattle.quick.proofs.PromiseLaws.{quick_outcome}
use Rattle.text.specs.Ascii.{ascii}
use Rattle.decimal.specs.Decimal.{field}
use Rattle.text.specs.Shown.{shown, Appended}
use Rattle.text.specs.declared.Text.{Text}
use Rattle.text.proofs.ClipLaws.{append_both, append_whole}
use Rattle.listing.specs.Lines.{table_lines}
use Rattle.listing.specs.Printed.{printed}
use Rattle.listing.proofs.PrintedLaws.{printed-same, in_terms}
use Rattle.quickreport.specs.Output.{quick_summary, quick_lines, quick_output_of, Reported, QuickReadBack}
use Rattle.quickreport.proofs.BackLaws.{quick_read}

pub summary_made : {t a b r : Text} (plan : QuickPlan) → Appended t (ascii "quick") 5 a
    → Appended a (field plan.rejected) 21 b → Appended b (ascii "\n") 1 r → Appended t (quick_summary plan) 27 r
unfolding quick_summary
summary_made plan p q u = append_both (append_both p q) u

pub plan_whole : {t a r : Text} (s : TaskSet) (plan : QuickPlan) → shown t ≡ [] → Appended t (table_lines s plan.placement) 2085 a
    → Appended a (quick_summary plan) 27 r → shown r ≡ quick_lines s plan
unfolding quick_lines
plan_whole s plan e p q = append_whole e (append_both p q) (omega arith)

-- The outcome of a quick plan of a checked task set is no refusal.
pub never_refused : (f : Fields) {plan : QuickPlan} {o : Outcome} {cause : Cause} → plan ≡ quick_for f → plan.outcome ≡ o → o ≡ Err cause → ⊥
unfolding quick_for
never_refused f {plan} e q h =
    let a : plan.outcome ≡ Ok tt = rw e in
    let z : ◌≡◌ {A = ℕ} 0 1 = cc in
    omega arith

-- the definition, by the outcome of the table's tests
output_is : (t : Table) → quick_output_of t ≡ printed t.outcome (quick_lines (task_set_of t.fields) (quick_for t.fields))
unfolding quick_output_of
output_is t =
    ap (λ o. printed o (quick_lines (reading_of t).tasks (quick_of t))) (quick_outcome t)
    ∙ printed-same t.outcome (λ e. ap₂ quick_lines (read_tasks t refl (read_outcome t refl ∙ e)) (quick_accepted_is t e))

-- ---- from the reader's answer to the output: the clauses of `report`

pub output_all : {t : Table} → Sound t → {x : List ℕ} → x ≡ printed t.outcome (quick_lines (task_set_of t.fields) (quick_for t.fields))
    → (x ≡ quick_output_of t) × (Reported t x × QuickReadBack t x)
output_all {t} s e = let p = in_terms s _ e in (e ∙ sym (output_is t), (p, quick_read s p))
