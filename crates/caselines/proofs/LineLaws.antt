-- The lines of the cases, piece by piece.
use Rattle.std.specs.Prelude.{Ok, Err}
use Prim.Native.Nat.{ℕ}
use mathlib.Core.Path.{◌≡◌, sym}
use mathlib.Core.List.{List, [], ◌∷◌, append_assoc, append-nil}
use native.Mathlib.Omega.{arith}
use Rattle.refusal.specs.Causes.{number_of, place_of}
use Rattle.refusal.specs.declared.Cause.{Cause}
use Rattle.refusal.specs.Outcome.{Outcome}
use Rattle.fields.specs.declared.Fields.{Fields}
use Rattle.taskset.specs.declared.TaskSet.{TaskSet}
use Rattle.taskset.specs.declared.Reading.{Reading}
use Rattle.ordering.specs.Order.{planning_order}
use Rattle.planner.specs.Plan.{verdict_outcome}
use Rattle.planner.specs.declared.Allocation.{Allocation}
use Rattle.quick.specs.declared.QuickPlan.{QuickPlan}
use Rattle.ceiling.specs.declared.StepCeiling.{StepCeiling}
use Rattle.dependencies.specs.declared.TaskOrder.{TaskOrder}
use Rattle.edf.specs.declared.Slot.{Slot}
use Rattle.start.specs.declared.Started.{Started}
use Rattle.runner.specs.declared.Core.{Core}
use Rattle.runner.specs.declared.Ticked.{Ticked}
use Rattle.text.specs.Ascii.{ascii}
use Rattle.decimal.specs.Decimal.{front, digits_by, decimal, field}
use Rattle.decimal.specs.Joined.{joined, fields}
use Rattle.text.specs.Shown.{shown, Appended}
use Rattle.text.specs.declared.Text.{Text}
use Rattle.text.proofs.ClipLaws.{append_both, append_within, append_whole}
use Rattle.caselines.specs.Lines.{outcome_fields, slot_fields, record_fields, size_fields, task_numbers, task_fields, table_line, verdict_number, plan_line, core_line, tick_line, record_line, quick_line, ceiling_line, board_fields, row_fields, new_line, order_line}

-- number and place
module _ {t r : Text} {o : Outcome} where
  pub outcome_accepted : o ≡ Ok tt → Appended t (ascii "0 0") 3 r → Appended t (outcome_fields o) 41 r
  unfolding outcome_fields decimal digits_by front field
  outcome_accepted e p = rw e (append_within 41 p (omega arith))

  pub outcome_refused : {a : Text} {cause : Cause} {x y : ℕ} → o ≡ Err cause → x ≡ number_of cause → Appended t (decimal x) 20 a
      → y ≡ place_of cause → Appended a (field y) 21 r → Appended t (outcome_fields o) 41 r
  unfolding outcome_fields
  outcome_refused e i p j q = rw e (append_both (rw i at p) (rw j at q))

pub slot-made : {t r : Text} (s : Slot) → Appended t (fields (s.period ∷ s.budget ∷ s.until ∷ s.remaining ∷ [])) 84 r
    → Appended t (slot_fields s) 84 r
unfolding slot_fields joined
slot-made s p = simp append_assoc (simp append-nil at p)

pub record_made : {t a r : Text} (c : Core) → Appended t (field c.charge) 21 a → Appended a (joined slot_fields c.slots) 1344 r
    → Appended t (record_fields c) 1365 r
unfolding record_fields
record_made c p q = append_both p q

-- a table
pub sizes-made : {t a b r : Text} (s : TaskSet) → Appended t (field s.fields.n) 21 a → Appended a (field s.fields.m) 21 b
    → Appended b (field s.hyperperiod) 21 r → Appended t (size_fields s) 63 r
unfolding size_fields
sizes-made s p q u = append_both (append_both p q) u

pub tasks-made : {t a b d r : Text} (s : TaskSet) {o numbers : List ℕ} → o ≡ planning_order s → numbers ≡ task_numbers o s.fields.n
    → Appended t (fields s.fields.periods) 336 a → Appended a (fields s.fields.budgets) 336 b
    → Appended b (fields s.demands) 336 d → Appended d (fields numbers) 336 r → Appended t (task_fields s) 1344 r
unfolding task_fields
tasks-made s e w p q u v = append_both (append_both (append_both p q) u) (rw (w, e) at v)

pub table_whole : {t a b d line : Text} (r : Reading) {o : Outcome} → shown t ≡ [] → r.outcome ≡ o → Appended t (outcome_fields o) 41 a
    → Appended a (size_fields r.tasks) 63 b → Appended b (task_fields r.tasks) 1344 d → Appended d (ascii "\n") 1 line
    → shown line ≡ table_line r
unfolding table_line
table_whole r e i p q u v = append_whole e (append_both (append_both (append_both (rw (sym i) at p) q) u) v) (omega arith)

-- a plan
pub plan_whole : {t a b d e f line : Text} (plan : Allocation) {o : Outcome} {number : ℕ} → shown t ≡ [] → o ≡ verdict_outcome plan.verdict
    → Appended t (outcome_fields o) 41 a → number ≡ verdict_number plan.verdict → Appended a (field number) 21 b
    → Appended b (field plan.rejected) 21 d → Appended d (field plan.steps) 21 e → Appended e (fields plan.placement) 336 f
    → Appended f (ascii "\n") 1 line → shown line ≡ plan_line plan
unfolding plan_line
plan_whole plan z i p j q u v w x =
    append_whole z (append_both (append_both (append_both (append_both (append_both (rw i at p) (rw j at q)) u) v) w) x) (omega arith)

-- a quick plan
pub quick_whole : {t a b d line : Text} (plan : QuickPlan) {o : Outcome} → shown t ≡ [] → plan.outcome ≡ o → Appended t (outcome_fields o) 41 a
    → Appended a (field plan.rejected) 21 b → Appended b (fields plan.placement) 336 d → Appended d (ascii "\n") 1 line
    → shown line ≡ quick_line plan
unfolding quick_line
quick_whole plan e i p q u v = append_whole e (append_both (append_both (append_both (rw (sym i) at p) q) u) v) (omega arith)

-- a step ceiling
pub ceiling_whole : {t a b line : Text} (answer : StepCeiling) {o : Outcome} → shown t ≡ [] → answer.outcome ≡ o → Appended t (outcome_fields o) 41 a
    → Appended a (field answer.ceiling) 21 b → Appended b (ascii "\n") 1 line → shown line ≡ ceiling_line answer
unfolding ceiling_line
ceiling_whole answer e i p q u = append_whole e (append_both (append_both (rw (sym i) at p) q) u) (omega arith)

-- a fresh core
pub core_whole : {t a b line : Text} (s : Started) {o : Outcome} → shown t ≡ [] → s.outcome ≡ o → Appended t (outcome_fields o) 41 a
    → Appended a (record_fields s.core) 1365 b → Appended b (ascii "\n") 1 line → shown line ≡ core_line s
unfolding core_line
core_whole s e i p q u = append_whole e (append_both (append_both (rw (sym i) at p) q) u) (omega arith)

-- a tick
module _ {t a b d : Text} (s : Ticked) {o : Outcome} (e : shown t ≡ []) (i : s.outcome ≡ o) (p : Appended t (outcome_fields o) 41 a)
    (q : Appended a (field s.run) 21 b) (u : Appended b (field s.late) 21 d) where
  pub tick_whole : {line : Text} → Appended d (ascii "\n") 1 line → shown line ≡ tick_line s
  unfolding tick_line
  tick_whole v = append_whole e (append_both (append_both (append_both (rw (sym i) at p) q) u) v) (omega arith)

  pub record_whole : {f line : Text} → Appended d (record_fields s.core) 1365 f → Appended f (ascii "\n") 1 line
      → shown line ≡ record_line s
  unfolding record_line
  record_whole v w = append_whole e (append_both (append_both (append_both (append_both (rw (sym i) at p) q) u) v) w) (omega arith)

-- a table in the new form
pub board-made : {t a b d r : Text} (s : TaskSet) → Appended t (field s.fields.n) 21 a → Appended a (field s.fields.m) 21 b
    → Appended b (field s.fields.charge) 21 d → Appended d (field s.hyperperiod) 21 r → Appended t (board_fields s) 84 r
unfolding board_fields
board-made s p q u v = append_both (append_both (append_both p q) u) v

pub rows_made : {t a b r : Text} (f : Fields) → Appended t (fields f.periods) 336 a → Appended a (fields f.budgets) 336 b
    → Appended b (fields f.affinity) 336 r → Appended t (row_fields f) 1008 r
unfolding row_fields
rows_made f p q u = append_both (append_both p q) u

pub new_whole : {t a b d line : Text} (r : Reading) {o : Outcome} → shown t ≡ [] → r.outcome ≡ o → Appended t (outcome_fields o) 41 a
    → Appended a (board_fields r.tasks) 84 b → Appended b (row_fields r.tasks.fields) 1008 d → Appended d (ascii "\n") 1 line
    → shown line ≡ new_line r
unfolding new_line
new_whole r e i p q u v = append_whole e (append_both (append_both (append_both (rw (sym i) at p) q) u) v) (omega arith)

-- an order of the tasks
pub order_whole : {t a b line : Text} (answer : TaskOrder) {o : Outcome} → shown t ≡ [] → answer.outcome ≡ o → Appended t (outcome_fields o) 41 a
    → Appended a (fields answer.order) 336 b → Appended b (ascii "\n") 1 line → shown line ≡ order_line answer
unfolding order_line
order_whole answer e i p q u = append_whole e (append_both (append_both (rw (sym i) at p) q) u) (omega arith)
