-- The steps of the quick plan make the one that its definition names.
use Rattle.std.specs.Prelude.{Ok, Err}
use Prim.Native.Nat.{ℕ}
use mathlib.Core.Path.{◌≡◌, refl, sym, ◌∙◌, ap}
use mathlib.Core.List.{List}
use lib.ListN.{take}
use Rattle.numbers.specs.Reorder.{scatter}
use Rattle.numbers.specs.Rows.{row, entry}
use Rattle.refusal.specs.declared.Cause.{Cause}
use Rattle.refusal.specs.Outcome.{Outcome}
use Rattle.refusal.proofs.TestLaws.{by_accepted, by_refused}
use Rattle.taskset.specs.Promise.{Checked}
use Rattle.taskset.specs.Table.{Table}
use Rattle.fields.specs.declared.Fields.{Fields}
use Rattle.taskset.specs.declared.TaskSet.{TaskSet}
use Rattle.planning.specs.Problem.{table_problem, order_of}
use Rattle.planning.specs.Prepared.{Prepares}
use Rattle.planning.specs.declared.Prepared.{Prepared}
use Rattle.plans.proofs.SafeLaws.{order_permutation}
use Rattle.allocation.specs.Placement.{Problem, problem_of, rejected}
use Rattle.allocation.specs.TableOrder.{in_planning_order}
use Rattle.allocation.specs.FirstFit.{first_fit, table_fit}
use Rattle.allocation.proofs.FirstFit.{first_feasible}
use Rattle.allocation.proofs.Reorder.{rejected-scatter}
use Rattle.walk.specs.Given.{found_of}
use Rattle.walk.specs.declared.Found.{Found}
use Rattle.firstfit.specs.Fit.{fit_answer}
use Rattle.planner.proofs.PlanLaws.{found_is, found_back}
use Rattle.quick.specs.Quick.{quick_placement, quick_for, refused_quick, quick_by, quick_of}
use Rattle.quick.specs.declared.QuickPlan.{QuickPlan}

-- first fit in planning order, back in table order, is the quick plan
module _ {t : TaskSet} (c : Checked t) {o : List ℕ} {p : Prepared} (s : Prepares t o p)
    {found : Found} (w : found ≡ found_of (fit_answer (problem_of t.hyperperiod t.fields.m (take t.fields.n p.demands) (take t.fields.n p.affinity)))) where
  abbrev P : Problem
  P = in_planning_order (table_problem t.fields) (order_of t.fields)

  pub quick_is : {q : List ℕ} → q ≡ row 0 t.fields.n (entry (scatter (take t.fields.n o) found.placement))
      → ◌≡◌ {A = QuickPlan} (record { outcome = Ok tt; placement = q; rejected = found.rejected }) (quick_for t.fields)
  unfolding quick_for quick_placement table_fit found_of fit_answer
  quick_is x =
      let r : found.rejected ≡ rejected (table_problem t.fields) (scatter (order_of t.fields) (first_fit P)) =
      ap (λ g. g.rejected) (found_is fit_answer s w)
      ∙ sym (rejected-scatter (table_problem t.fields) (order_of t.fields) (order_permutation t.fields c.within) (first_fit P) (first_feasible P)) in
      λ i. record { outcome = Ok tt; placement = found_back fit_answer s w x i; rejected = r i }

-- ---- by the outcome of the reading

pub quick_refused : (f : Fields) {o : Outcome} {c : Cause} {r : QuickPlan} → r ≡ refused_quick c → o ≡ Err c → r ≡ quick_by o f
unfolding quick_by
quick_refused f w q = w ∙ sym (by_refused refused_quick quick_for f q)

pub quick_accepted : (f : Fields) {o : Outcome} {r : QuickPlan} → o ≡ Ok tt → r ≡ quick_for f → r ≡ quick_by o f
unfolding quick_by
quick_accepted f q w = w ∙ sym (by_accepted refused_quick quick_for f q)

-- the quick plan of a table whose tests accept
pub quick_accepted_is : (t : Table) → t.outcome ≡ Ok tt → quick_of t ≡ quick_for t.fields
unfolding quick_of
quick_accepted_is t e = sym (quick_accepted t.fields e refl)
