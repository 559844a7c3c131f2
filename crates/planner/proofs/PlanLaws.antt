-- The planner's steps make the plan that its definition names.
use Rattle.std.specs.Prelude.{Ok, Err}
use Prim.Native.Nat.{ℕ, zero, suc, ◌≤◌}
use mathlib.Core.Path.{◌≡◌, refl, sym, ◌∙◌, ap}
use mathlib.Core.Bool.{Bool, true, false}
use mathlib.Core.List.{List}
use lib.ListN.{get_or, take}
use Rattle.numbers.specs.Reorder.{scatter}
use Rattle.numbers.specs.Rows.{row, entry}
use Rattle.refusal.specs.declared.Cause.{Cause}
use Rattle.refusal.specs.Outcome.{Outcome}
use Rattle.refusal.proofs.TestLaws.{by_accepted, by_refused}
use Rattle.taskset.specs.Promise.{Checked}
use Rattle.taskset.specs.Table.{Table, reading_of}
use Rattle.fields.specs.declared.Fields.{Fields}
use Rattle.taskset.specs.declared.TaskSet.{TaskSet}
use Rattle.taskset.specs.declared.Reading.{Reading}
use Rattle.taskset.proofs.DemandLaws.{hyperperiod_held}
use Rattle.taskset.proofs.TableLaws.{read_answer, answers_alike}
use Rattle.planning.specs.Problem.{table_problem, order_of}
use Rattle.planning.specs.Prepared.{Prepares}
use Rattle.planning.specs.declared.Prepared.{Prepared}
use Rattle.planning.proofs.PreparedLaws.{put_back}
use Rattle.allocation.specs.Placement.{Problem, problem_of}
use Rattle.allocation.specs.Walk.{WalkAnswer, answer}
use Rattle.allocation.specs.TableOrder.{in_planning_order, table_answer}
use Rattle.walk.specs.Given.{Ranges, found_of}
use Rattle.walk.specs.declared.Found.{Found}
use Rattle.planner.specs.Plan.{verdict_of, allocation_of, plan_for, refused_plan, plan_by, plan_of, verdict_outcome}
use Rattle.planner.specs.declared.Allocation.{Allocation}
use Rattle.planner.specs.declared.Verdict.{Verdict}
use Rattle.planner.specs.declared.Verdict.TheVariants.{All, Short, Spent}

-- ---- a checked task set

-- the ranges of an engine
pub ranges : {t : TaskSet} → Checked t → (d : List ℕ) → ((k : ℕ) → get_or d k 0 ≤ t.hyperperiod) → Ranges d t.fields.n t.fields.m t.hyperperiod
ranges c d each = record {
  some = c.within.sizes.tasks.0;
  few = c.within.sizes.tasks.1;
  one_core = c.within.sizes.cores.0;
  few_cores = c.within.sizes.cores.1;
  small = rw (hyperperiod_held c) c.within.multiple;
  each = each;
}

-- what an engine finds of a checked task set is its answer to the table's problem in planning order, and its choices go back into table order
module _ (engine : Problem → WalkAnswer) {t : TaskSet} {o : List ℕ} {p : Prepared} (s : Prepares t o p)
    {found : Found} (w : found ≡ found_of (engine (problem_of t.hyperperiod t.fields.m (take t.fields.n p.demands) (take t.fields.n p.affinity)))) where
  abbrev answered : WalkAnswer
  answered = engine (in_planning_order (table_problem t.fields) (order_of t.fields))

  pub found_is : found ≡ found_of answered
  found_is = w ∙ ap (λ P. found_of (engine P)) s.problem

  pub found_back : {q : List ℕ} → q ≡ row 0 t.fields.n (entry (scatter (take t.fields.n o) found.placement))
      → q ≡ row 0 t.fields.n (entry (scatter (order_of t.fields) answered.placement))
  unfolding found_of
  found_back x = put_back s answered.placement (ap (λ g. g.placement) found_is) x

-- so what the search finds is the plan
module _ {t : TaskSet} {o : List ℕ} {p : Prepared} (s : Prepares t o p) (limit : ℕ)
    {found : Found} (w : found ≡ found_of (answer (problem_of t.hyperperiod t.fields.m (take t.fields.n p.demands) (take t.fields.n p.affinity)) limit)) where
  pub plan_is : {q : List ℕ} {v : Verdict} → q ≡ row 0 t.fields.n (entry (scatter (take t.fields.n o) found.placement))
      → v ≡ verdict_of found.spent found.rejected
      → ◌≡◌ {A = Allocation} (record { verdict = v; placement = q; rejected = found.rejected; steps = found.steps }) (plan_for t.fields limit)
  unfolding plan_for allocation_of table_answer found_of
  plan_is {q} {v} x y =
      let z = found_is (λ P. answer P limit) s w in
      λ i. record {
        verdict = (y ∙ ap (λ g. verdict_of g.spent g.rejected) z) i;
        placement = found_back (λ P. answer P limit) s w x i;
        rejected = (z i).rejected;
        steps = (z i).steps;
      }

-- ---- the verdict

pub verdict_spent : (b : Bool) (x : ℕ) → b ≡ true → Spent ≡ verdict_of b x
unfolding verdict_of
verdict_spent b x e = rw e

pub verdict_all : (b : Bool) (x : ℕ) → b ≡ false → x ≡ 0 → All ≡ verdict_of b x
unfolding verdict_of
verdict_all b x e q = rw (e, q)

pub verdict_short : (b : Bool) (x : ℕ) → b ≡ false → (x ≡ 0 → ⊥) → Short ≡ verdict_of b x
unfolding verdict_of
verdict_short b zero e q = absurd (q refl)
verdict_short b (suc x) e q = rw e

-- what a verdict says goes by its case
pub outcome_of : {v w : Verdict} {o : Outcome} → v ≡ w → o ≡ verdict_outcome w → o ≡ verdict_outcome v
outcome_of e p = p ∙ ap verdict_outcome (sym e)

-- ---- by the outcome of the reading

pub plan_refused : (limit : ℕ) (f : Fields) {o : Outcome} {c : Cause} {r : Allocation} → r ≡ refused_plan c → o ≡ Err c → r ≡ plan_by limit o f
unfolding plan_by
plan_refused limit f w q = w ∙ sym (by_refused refused_plan _ f q)

pub plan_accepted : (limit : ℕ) (f : Fields) {o : Outcome} {r : Allocation} → o ≡ Ok tt → r ≡ plan_for f limit → r ≡ plan_by limit o f
unfolding plan_by
plan_accepted limit f q w = w ∙ sym (by_accepted refused_plan _ f q)

-- the plan of a table whose tests accept, and of one that they refuse
module _ (t : Table) (limit : ℕ) where
  pub plan_accepted_is : t.outcome ≡ Ok tt → plan_of t limit ≡ plan_for t.fields limit
  unfolding plan_of
  plan_accepted_is e = sym (plan_accepted limit t.fields e refl)

  pub plan_refused_is : {c : Cause} → t.outcome ≡ Err c → plan_of t limit ≡ refused_plan c
  unfolding plan_of
  plan_refused_is e = sym (plan_refused limit t.fields refl e)

-- the plan of a table's reading is the table's
pub plan_table : (t : Table) {g : Reading} → g ≡ reading_of t → (limit : ℕ) {r : Allocation} → r ≡ plan_by limit g.outcome g.tasks.fields → r ≡ plan_of t limit
unfolding plan_of plan_by
plan_table t e limit w = w ∙ read_answer t e refused_plan _

-- tables that read alike have the same plan
pub plan_alike : (t u : Table) → reading_of t ≡ reading_of u → (limit : ℕ) → plan_of t limit ≡ plan_of u limit
unfolding plan_of plan_by
plan_alike t u e limit = answers_alike t u e refused_plan (λ f. plan_for f limit)
