-- The plan of a valid table keeps demand 2, and the planner accepts exactly the valid tables.
use Rattle.std.specs.Prelude.{Ok, Err}
use Prim.Native.Nat.{ℕ, zero, suc, ◌≤◌, ◌<◌}
use mathlib.Core.Path.{◌≡◌, refl, sym, ◌∙◌, ap}
use mathlib.Core.Bool.{Bool, true, false, true≢false}
use mathlib.Core.List.{List}
use mathlib.Core.Logic.{◌⊎◌, inl, inr, ◌↔◌, ◌≢◌}
use lib.ListN.{length, take, replicate}
use native.Mathlib.Omega.{arith}
use Rattle.numbers.specs.Reorder.{scatter}
use Rattle.numbers.specs.Rows.{entry}
use Rattle.numbers.proofs.SortingLaws.{permutation_below}
use Rattle.numbers.proofs.ReorderLaws.{order_long, get_or-gather}
use Rattle.refusal.specs.Causes.{number_in}
use Rattle.refusal.proofs.TestLaws.{by_says}
use Rattle.refusal.proofs.ConditionLaws.{decides}
use Rattle.refusal.specs.declared.Cause.{Cause}
use Rattle.fields.specs.Limits.{Within}
use Rattle.taskset.specs.Table.{Table, reading_of, Decided, Sound}
use Rattle.fields.specs.declared.Fields.{Fields}
use Rattle.taskset.specs.declared.Reading.{Reading}
use Rattle.taskset.proofs.TableLaws.{answer_valid, answer_both}
use Rattle.planning.specs.Problem.{table_problem, order_of}
use Rattle.plans.specs.Safe.{choices_of}
use Rattle.plans.proofs.SafeLaws.{demands_long, stated_order, order_permutation, positive, byte_at, row-choices, row_safe}
use Rattle.allocation.specs.Placement.{Feasible, Full}
use Rattle.allocation.specs.Walk.{WalkAnswer, LastLeaf, NoLeaf}
use Rattle.allocation.specs.TableOrder.{in_planning_order, table_answer}
use Rattle.allocation.specs.Guarantee.{Guarantee}
use Rattle.allocation.proofs.Reorder.{in_planning_order_long, gathered_positive, twins-gather, twins_back}
use Rattle.allocation.proofs.DepthFirst.{depth_first}
use Rattle.allocation.proofs.Guarantee.{guaranteed}
use Rattle.planner.specs.Plan.{verdict_of, allocation_of, plan_for, refused_plan, plan_by, plan_of, verdict_outcome}
use Rattle.planner.specs.Promise.{walk_of, Promise, InTurn, WalkRule, RefusedPlan, Plans}
use Rattle.planner.specs.declared.Allocation.{Allocation}
use Rattle.planner.specs.declared.Verdict.TheVariants.{All, Short, Spent}
use Rattle.planner.proofs.PlanLaws.{plan_table}

-- ---- what each verdict says

spent_is : (b : Bool) (x : ℕ) → (verdict_of b x ≡ Spent) ↔ (b ≡ true)
unfolding verdict_of
spent_is true x = (λ e. refl, λ e. refl)
spent_is false zero = (λ e. absurd (let z : ◌≡◌ {A = ℕ} 0 1 = cc in omega arith), λ e. absurd (true≢false (sym e)))
spent_is false (suc x) = (λ e. absurd (let z : ◌≡◌ {A = ℕ} 0 1 = cc in omega arith), λ e. absurd (true≢false (sym e)))

not_spent : (b : Bool) (x : ℕ) → verdict_of b x ≢ Spent → b ≡ false
not_spent true x h = absurd (h ((spent_is true x).1 refl))
not_spent false x h = refl

all_is : (b : Bool) (x : ℕ) → b ≡ false → (verdict_of b x ≡ All) ↔ (x ≡ 0)
unfolding verdict_of
all_is true x h = absurd (true≢false h)
all_is false zero h = (λ e. refl, λ e. refl)
all_is false (suc x) h = (λ e. absurd (let z : ◌≡◌ {A = ℕ} 0 1 = cc in omega arith), λ e. absurd (omega arith))

short_is : (b : Bool) (x : ℕ) → b ≡ false → (verdict_of b x ≡ Short) ↔ (1 ≤ x)
unfolding verdict_of
short_is true x h = absurd (true≢false h)
short_is false zero h = (λ e. absurd (let z : ◌≡◌ {A = ℕ} 0 1 = cc in omega arith), λ e. absurd (omega arith))
short_is false (suc x) h = (λ e. omega arith, λ e. refl)

-- ---- demand 2

module _ (f : Fields) (w : Within f) where
  cores_are : (table_problem f).cores ≡ f.m
  unfolding table_problem
  cores_are = refl

  -- the stated order lists a task of the table at each of its places
  listed : (j : ℕ) → j < f.n → j < length (order_of f)
  listed j h = omega (arith, demands_long f w, order_long (length (table_problem f).demands) (order_of f) (order_permutation f w))

  in_turn : InTurn f
  in_turn = record {
    cores = cores_are;
    capacity = refl;
    tasks = in_planning_order_long (table_problem f) (order_of f) (order_permutation f w) ∙ demands_long f w;
    demand = λ j h. get_or-gather (order_of f) (table_problem f).demands j (listed j h);
    permitted = λ j core h.
        rw (
          get_or-gather (order_of f) (table_problem f).affinity j (listed j h),
          byte_at f w (entry (order_of f) j) (permutation_below f.n (order_of f) (stated_order f w).1 j (listed j h)),
        ) refl;
  }

  pub walk_rule : WalkRule f
  walk_rule = record {
    over = in_turn;
    steps = depth_first (in_planning_order (table_problem f) (order_of f))
        (gathered_positive (table_problem f) (order_of f) (order_permutation f w) (positive f w));
    twins = λ c d. (
      λ t k h. rw ((byte_at f w) k h) at (twins_back (table_problem f) (order_of f) (order_permutation f w) c d t k (rw (demands_long f w) h)),
      λ t. twins-gather (table_problem f) (order_of f) (order_permutation f w) c d (λ k h. rw ((byte_at f w) k (rw (demands_long f w) at h)) (t k (rw (demands_long f w) at h))),
    );
  }

  module _ (limit : ℕ) where
    a : WalkAnswer
    a = table_answer (table_problem f) (order_of f) limit

    keeps : Guarantee (table_problem f) (order_of f) limit a
    unfolding a
    keeps = guaranteed (table_problem f) (order_of f) (order_permutation f w) (positive f w) limit

    choices_are : choices_of f (plan_for f limit).placement ≡ a.placement
    unfolding plan_for allocation_of a
    choices_are = (row-choices f w) keeps.feasible

    verdict_is : (plan_for f limit).verdict ≡ verdict_of a.spent a.rejected
    unfolding plan_for allocation_of a
    verdict_is = refl

    unspent : (plan_for f limit).verdict ≢ Spent → a.spent ≡ false
    unspent h = not_spent a.spent a.rejected (λ e. h (verdict_is ∙ e))

    all_exactly : a.spent ≡ false → ((plan_for f limit).verdict ≡ All) ↔ ((q : List ℕ) × Feasible (table_problem f) q × Full q)
    all_exactly h = (
      λ e. (keeps.all h).0 ((all_is a.spent a.rejected h).0 (sym verdict_is ∙ e)),
      λ x. verdict_is ∙ (all_is a.spent a.rejected h).1 ((keeps.all h).1 x),
    )

    short_exactly : a.spent ≡ false → ((plan_for f limit).verdict ≡ Short) ↔ ((q : List ℕ) → Feasible (table_problem f) q → Full q → ⊥)
    short_exactly h = (
      λ e q g u. omega (arith, (short_is a.spent a.rejected h).0 (sym verdict_is ∙ e), (keeps.all h).1 (q, g, u)),
      λ none. verdict_is ∙ (short_is a.spent a.rejected h).1 (at none a.rejected refl),
    )
      where
        at : ((q : List ℕ) → Feasible (table_problem f) q → Full q → ⊥) → (x : ℕ) → a.rejected ≡ x → 1 ≤ a.rejected
        at none zero e = let r = (keeps.all h).0 e in absurd (none r.0 r.1 r.2)
        at none (suc x) e = omega arith

    spent_exactly : ((plan_for f limit).verdict ≡ Spent) ↔ (limit < length (walk_of f))
    spent_exactly = (
      λ e. keeps.spent.0 ((spent_is a.spent a.rejected).0 (sym verdict_is ∙ e)),
      λ h. verdict_is ∙ (spent_is a.spent a.rejected).1 (keeps.spent.1 h),
    )

    stored : ((p : List ℕ) × LastLeaf (take limit (walk_of f)) p × (choices_of f (plan_for f limit).placement ≡ scatter (order_of f) p))
        ⊎ (NoLeaf (take limit (walk_of f)) × (choices_of f (plan_for f limit).placement ≡ replicate f.n 0))
    stored = go keeps.stores
      where
        go : ((p : List ℕ) × LastLeaf (take limit (walk_of f)) p × (a.placement ≡ scatter (order_of f) p))
            ⊎ (NoLeaf (take limit (walk_of f)) × (a.placement ≡ replicate (length (table_problem f).demands) 0))
            → ((p : List ℕ) × LastLeaf (take limit (walk_of f)) p × (choices_of f (plan_for f limit).placement ≡ scatter (order_of f) p))
            ⊎ (NoLeaf (take limit (walk_of f)) × (choices_of f (plan_for f limit).placement ≡ replicate f.n 0))
        go (inl x) = inl (x.0, x.1, choices_are ∙ x.2)
        go (inr x) = inr (x.0, choices_are ∙ x.1 ∙ ap (λ (k : ℕ). replicate k 0) (demands_long f w))

    pub promised : Promise f limit (plan_for f limit)
    unfolding plan_for allocation_of a
    promised = record {
      safe = rw keeps.rejects ((row_safe f w) keeps.feasible);
      best = λ h. rw choices_are (keeps.best (unspent h));
      ordered = (stated_order f w);
      all = λ h. all_exactly (unspent h);
      short = λ h. short_exactly (unspent h);
      spent = spent_exactly;
      stores = λ e. stored;
      limited = λ e. keeps.limited (spent_exactly' e);
      complete = λ h. keeps.complete (unspent h);
    }
      where
        spent_exactly' : (plan_for f limit).verdict ≡ Spent → a.spent ≡ true
        spent_exactly' e = (spent_is a.spent a.rejected).0 (sym verdict_is ∙ e)

-- ---- demand 1

pub outcome_planned : (b : Bool) (x : ℕ) → verdict_outcome (verdict_of b x) ≡ Ok tt
unfolding verdict_of verdict_outcome
outcome_planned true x = refl
outcome_planned false zero = refl
outcome_planned false (suc x) = refl

pub planned_says : (f : Fields) (limit : ℕ) → verdict_outcome (plan_for f limit).verdict ≡ Ok tt
unfolding plan_for allocation_of
planned_says f limit = outcome_planned _ _

refused_says : (c : Cause) → verdict_outcome (refused_plan c).verdict ≡ Err c
unfolding refused_plan verdict_outcome
refused_says c = refl

refused_zeros : (c : Cause) → RefusedPlan (refused_plan c)
unfolding refused_plan
refused_zeros c = record { placement = refl; rejected = refl; steps = refl }

pub plan_outcome : (t : Table) (limit : ℕ) → verdict_outcome (plan_of t limit).verdict ≡ t.outcome
unfolding plan_of plan_by
plan_outcome t limit = by_says refused_plan _ (λ a. verdict_outcome a.verdict) refused_says (λ f. planned_says f limit) t.outcome t.fields

-- what is promised of an answer that equals the definition
module _ {t : Table} (s : Sound t) (limit : ℕ) {r : Allocation} (e : r ≡ plan_of t limit) where
  pub plan_decided : Decided t (verdict_outcome r.verdict)
  plan_decided = rw (e, plan_outcome t limit) (decides s.tested)

  pub plan_promised : Plans t limit r
  unfolding plan_of plan_by
  plan_promised = record {
    promise = λ v. rw (e, answer_valid s refused_plan (λ f. plan_for f limit) v) (promised t.fields (s.within v) limit);
    walks = λ v. walk_rule t.fields (s.within v);
    refused = rw e (answer_both s refused_plan (λ f. plan_for f limit) (λ a. number_in (verdict_outcome a.verdict) ≢ 0 → RefusedPlan a)
        (λ c n. refused_zeros c) (λ w n. absurd (n (ap number_in (planned_says t.fields limit)))));
  }

-- all that is said of the plan of a table's reading
pub plan_all : {t : Table} → Sound t → {g : Reading} → g ≡ reading_of t → (limit : ℕ) {r : Allocation} → r ≡ plan_by limit g.outcome g.tasks.fields
    → (r ≡ plan_of t limit) × (Decided t (verdict_outcome r.verdict) × Plans t limit r)
plan_all {t} s e limit w = let a = plan_table t e limit w in (a, (plan_decided s limit a, plan_promised s limit a))
