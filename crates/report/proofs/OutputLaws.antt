-- The whole output is the one that the definition gives.
use Rattle.std.specs.Prelude.{Ok, Err}
use Prim.Native.Nat.{ℕ}
use mathlib.Core.Path.{◌≡◌, refl, sym, ◌∙◌, ap, ap₂}
use mathlib.Core.List.{List, []}
use native.Mathlib.Omega.{arith}
use Rattle.refusal.specs.declared.Cause.{Cause}
use Rattle.refusal.specs.Outcome.{Outcome}
use Rattle.refusal.proofs.TestLaws.{accepted≢refused}
use Rattle.taskset.specs.Reading.{task_set_of}
use Rattle.fields.specs.declared.Fields.{Fields}
use Rattle.taskset.specs.declared.TaskSet.{TaskSet}
use Rattle.taskset.specs.declared.Reading.{Reading}
use Rattle.taskset.specs.Table.{Table, reading_of, Sound}
use Rattle.taskset.proofs.TableLaws.{read_outcome, read_tasks}
use Rattle.planner.specs.Plan.{plan_for, verdict_outcome}
use Rattle.planner.proofs.PromiseLaws.{planned_says, plan_outcome}
use Rattle.planner.proofs.PlanLaws.{plan_accepted_is, plan_alike}
use Rattle.planner.specs.declared.Allocation.{Allocation}
use Rattle.planner.specs.declared.Verdict.{Verdict}
use Rattle.planner.specs.declared.Verdict.TheVariants as verdict
use Rattle.text.specs.Shown.{shown, Appended}
use Rattle.text.specs.declared.Text.{Text}
use Rattle.text.proofs.ClipLaws.{append_both, append_whole}
use Rattle.listing.specs.Lines.{table_lines}
use Rattle.listing.specs.Printed.{printed}
use Rattle.listing.proofs.PrintedLaws.{printed-same, printed_accepted, in_terms}
use Rattle.report.specs.Output.{summary_line, plan_lines, read_output, output_of}
use Rattle.report.specs.Reported.{Reported, PlanReadBack}
use Rattle.report.proofs.BackLaws.{plan_read}

pub plan_whole : {t a r : Text} (s : TaskSet) (plan : Allocation) → shown t ≡ [] → Appended t (table_lines s plan.placement) 2085 a
    → Appended a (summary_line plan) 50 r → shown r ≡ plan_lines s plan
unfolding plan_lines
plan_whole s plan e p q = append_whole e (append_both p q) (omega arith)

-- The verdict of a plan is no refusal.
pub never_refused : (f : Fields) (limit : ℕ) {plan : Allocation} {v : Verdict} {cause : Cause} → plan ≡ plan_for f limit → plan.verdict ≡ v → v ≡ verdict.Refused cause → ⊥
unfolding verdict_outcome
never_refused f limit {plan} e q h =
    let a : verdict_outcome plan.verdict ≡ Ok tt = rw e (planned_says f limit) in
    let z : ◌≡◌ {A = ℕ} 0 1 = cc in
    omega arith

-- the definition, by the outcome of the table's tests
output_is : (t : Table) → output_of t ≡ printed t.outcome (plan_lines (task_set_of t.fields) (plan_for t.fields 1000000))
unfolding output_of
output_is t = rw (plan_outcome t 1000000) (printed-same t.outcome (λ e. rw (plan_accepted_is t 1000000 e, read_tasks t refl (read_outcome t refl ∙ e))))

-- ---- the steps of the program

module _ (g : Reading) {x : List ℕ} {o : Outcome} (q : g.outcome ≡ o) where
  pub read_refused : {cause : Cause} → o ≡ Err cause → x ≡ printed o [] → x ≡ read_output g
  unfolding read_output
  read_refused h p = p ∙ rw q (printed-same o (λ a. absurd (accepted≢refused a h)))

  pub read_planned : {plan : Allocation} → o ≡ Ok tt → plan ≡ plan_for g.tasks.fields 1000000 → x ≡ plan_lines g.tasks plan → x ≡ read_output g
  unfolding read_output
  read_planned h w p = p ∙ ap (plan_lines g.tasks) w ∙ sym (printed_accepted _ (q ∙ h))

-- ---- from a table's reading to the output, whatever the form of the table and its tests

pub output_all : {t : Table} → Sound t → {g : Reading} → g ≡ reading_of t → {x : List ℕ} → x ≡ read_output g → (x ≡ output_of t) × (Reported t x × PlanReadBack t x)
unfolding read_output task_set_of
output_all {t} s {g} e {x} w =
    let a : x ≡ printed t.outcome (plan_lines (task_set_of t.fields) (plan_for t.fields 1000000)) =
    w ∙ rw (read_outcome t e) (printed-same t.outcome (λ q. ap (λ u. plan_lines u (plan_for u.fields 1000000)) (read_tasks t e (read_outcome t e ∙ q)))) in
    let p = in_terms s _ a in
    (a ∙ sym (output_is t), (p, plan_read s p))

-- tables that read alike have the same output
pub output_alike : (t u : Table) → reading_of t ≡ reading_of u → output_of t ≡ output_of u
unfolding output_of
output_alike t u e = ap₂ (λ r p. printed (verdict_outcome p.verdict) (plan_lines r.tasks p)) e (plan_alike t u e 1000000)
