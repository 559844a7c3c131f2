-- The quick plan keeps what is promised of it, and is accepted exactly for valid tables.
use Rattle.std.specs.Prelude.{Ok, Err}
use Prim.Native.Nat.{ℕ, ◌≤◌, zero-le}
use mathlib.Core.Path.{◌≡◌, refl, sym, ◌∙◌, ap}
use mathlib.Core.Logic.{◌≢◌}
use lib.ListN.{take}
use native.Mathlib.Omega.{arith}
use Rattle.numbers.specs.Rows.{row, entry}
use Rattle.refusal.specs.Causes.{number_in}
use Rattle.refusal.proofs.CauseLaws.{number_range}
use Rattle.refusal.proofs.TestLaws.{accepted≢refused, by_both, by_says}
use Rattle.refusal.proofs.ConditionLaws.{decides}
use Rattle.refusal.specs.declared.Cause.{Cause}
use Rattle.taskset.specs.Demands.{load_on}
use Rattle.fields.specs.Limits.{Within}
use Rattle.taskset.specs.Table.{Table, reading_of, Decided, Sound}
use Rattle.fields.specs.declared.Fields.{Fields}
use Rattle.taskset.specs.declared.Reading.{Reading}
use Rattle.taskset.proofs.TableLaws.{table_accepts, table_within, read_answer}
use Rattle.planning.specs.Problem.{table_problem, order_of}
use Rattle.plans.specs.Safe.{choices_of, Safe}
use Rattle.plans.proofs.SafeLaws.{demands_long, planned_load, stated_order, order_permutation, row-choices, row_safe}
use Rattle.allocation.specs.TableOrder.{table_answer}
use Rattle.allocation.specs.FirstFit.{QuickGuarantee}
use Rattle.allocation.proofs.Quick.{quick_guaranteed}
use Rattle.planner.specs.Plan.{verdict_of, allocation_of, plan_for, refused_plan}
use Rattle.planner.proofs.PlanLaws.{plan_refused_is, plan_accepted_is}
use Rattle.planner.proofs.PromiseLaws.{promised}
use Rattle.planner.specs.declared.Verdict.TheVariants.{All, Spent}
use Rattle.quick.specs.Quick.{quick_placement, quick_for, refused_quick, quick_by, quick_of}
use Rattle.quick.specs.Promise.{Lowest, Fits}
use Rattle.quick.specs.declared.QuickPlan.{QuickPlan}

-- ---- fields within the limits

module _ (f : Fields) (w : Within f) where
  keeps : QuickGuarantee (table_problem f) (order_of f) (quick_placement f)
  unfolding quick_placement
  keeps = quick_guaranteed (table_problem f) (order_of f) (order_permutation f w)

  choices_are : choices_of f (quick_for f).placement ≡ quick_placement f
  unfolding quick_for
  choices_are = row-choices f w keeps.feasible

  safe : Safe f (quick_for f).placement (quick_for f).rejected
  unfolding quick_for
  safe = row_safe f w keeps.feasible

  lowest : Lowest f (quick_for f)
  lowest = record {
    each = λ k h. rw choices_are (keeps.lowest k (rw (demands_long f w) h));
    only = λ other e a. keeps.only other (e ∙ sym (demands_long f w)) (λ k h. a k (rw (demands_long f w) at h)) ∙ sym choices_are;
    ordered = stated_order f w;
  }

  exact_plan : (quick_for f).rejected ≡ 0 → (limit : ℕ) → f.n ≤ limit
      → plan_for f limit ≡ record { verdict = All; placement = (quick_for f).placement; rejected = 0; steps = f.n }
  unfolding quick_for plan_for allocation_of verdict_of
  exact_plan z limit h =
      ap (allocation_of f.n) (keeps.exact z limit (rw (demands_long f w) h))
      ∙ ap (λ (k : ℕ). record { verdict = All; placement = (quick_for f).placement; rejected = 0; steps = k }) (demands_long f w)

  plan_no_less : (limit : ℕ) → (plan_for f limit).verdict ≢ Spent → (plan_for f limit).rejected ≤ (quick_for f).rejected
  unfolding quick_for
  plan_no_less limit h =
      let s = (promised f w limit).safe in
      omega (arith, s.rejects, planned_load f w (choices_of f (plan_for f limit).placement) 0 (s.feasible.whole ∙ demands_long f w), ((promised f w limit).best h).least (quick_placement f) keeps.feasible)

  first_plan : (plan_for f f.n).placement ≡ (quick_for f).placement
  unfolding quick_for plan_for allocation_of
  first_plan =
      ap (λ p. row 0 f.n (entry p))
      (ap (λ (k : ℕ). (table_answer (table_problem f) (order_of f) k).placement) (sym (demands_long f w)) ∙ keeps.descent)

  first-rejected : (plan_for f f.n).rejected ≡ (quick_for f).rejected
  first-rejected = (promised f w f.n).safe.rejects ∙ ap (λ p. load_on f (take f.n p) 0) first_plan ∙ sym safe.rejects

  later_plans : (limit : ℕ) → f.n ≤ limit → (plan_for f limit).rejected ≤ (quick_for f).rejected
  unfolding quick_for plan_for allocation_of
  later_plans limit h = keeps.later limit (rw (demands_long f w) h)

-- ---- a table

pub quick_outcome : (t : Table) → (quick_of t).outcome ≡ t.outcome
unfolding quick_of quick_by quick_for refused_quick
quick_outcome t = by_says refused_quick quick_for (λ a. a.outcome) (λ c. refl) (λ f. refl) t.outcome t.fields

module _ {t : Table} (s : Sound t) where
  abbrev f : Fields
  f = t.fields

  -- of a refused table
  refused_fits : (c : Cause) → t.outcome ≡ Err c → Fits t (refused_quick c)
  unfolding refused_quick refused_plan
  refused_fits c e = record {
    safe = λ v. absurd (accepted≢refused ((table_accepts s).1 v) e);
    lowest = λ v. absurd (accepted≢refused ((table_accepts s).1 v) e);
    exact = λ z. absurd (omega (arith, number_range c, z));
    no_less = λ limit h. rw (plan_refused_is t limit e) zero-le;
    descent = record {
      placement = ap (λ a. a.placement) (plan_refused_is t f.n e);
      rejected = ap (λ a. a.rejected) (plan_refused_is t f.n e);
      later = λ limit h. rw (plan_refused_is t limit e) zero-le;
    };
    refused = λ n. record { placement = refl; rejected = refl };
  }

  -- and of an accepted one
  accepted_fits : t.outcome ≡ Ok tt → Fits t (quick_for f)
  accepted_fits e =
      let w : Within f = table_within s e in
      record {
        safe = λ v. safe f w;
        lowest = λ v. lowest f w;
        exact = λ z q limit h. plan_accepted_is t limit e ∙ exact_plan f w q limit h;
        no_less = λ limit h. rw (plan_accepted_is t limit e) (plan_no_less f w limit (rw (plan_accepted_is t limit e) at h));
        descent = record {
          placement = rw (plan_accepted_is t f.n e) (first_plan f w);
          rejected = rw (plan_accepted_is t f.n e) (first-rejected f w);
          later = λ limit h. rw (plan_accepted_is t limit e) (later_plans f w limit h);
        };
        refused = λ n. absurd (n (accepted_says f));
      }
    where
      accepted_says : (f : Fields) → number_in (quick_for f).outcome ≡ 0
      accepted_says f = unfold quick_for in refl

  module _ {r : QuickPlan} (e : r ≡ quick_of t) where
    pub quick_decided : Decided t r.outcome
    quick_decided = rw (e, quick_outcome t) (decides s.tested)

    pub quick_fits : Fits t r
    unfolding quick_of quick_by
    quick_fits = rw e (by_both refused_quick quick_for (Fits t) t.outcome f refused_fits accepted_fits)

-- all that is said of the quick plan of a table's reading
pub quick_all : {t : Table} → Sound t → {g : Reading} → g ≡ reading_of t → {r : QuickPlan} → r ≡ quick_by g.outcome g.tasks.fields
    → (r ≡ quick_of t) × (Decided t r.outcome × Fits t r)
unfolding quick_of quick_by
quick_all {t} s e {r} w = let a : r ≡ quick_of t = w ∙ read_answer t e refused_quick quick_for in (a, (quick_decided s a, quick_fits s a))
