-- The step ceiling keeps what is promised of it, and is accepted exactly for valid tables.
use Rattle.std.specs.Prelude.{Ok, Err}
use Prim.Native.Nat.{ℕ, pred, ◌+◌, ◌≤◌, ◌<◌}
use native.Mathlib.Nat.{le_trans, le_of_eq}
use native.Mathlib.Omega.{arith}
use mathlib.Core.Path.{◌≡◌, refl, sym, ◌∙◌, ap}
use mathlib.Core.Bool.{Bool, true, false, not, true≢false}
use mathlib.Core.List.{List}
use mathlib.Core.Logic.{inl, inr, ◌≢◌, ⊎_elim}
use lib.Dec.{eqb}
use lib.ListN.{length}
use borrow.Author.Tests.{eq-eqb, eqb-true, not-false}
use Rattle.numbers.specs.Reorder.{position}
use Rattle.numbers.specs.Rows.{tab, entry}
use Rattle.numbers.proofs.BoolLaws.{true_or_false}
use Rattle.numbers.proofs.FirstLaws.{first_zero, first_clear}
use Rattle.numbers.proofs.RowLaws.{get_or-tab}
use Rattle.numbers.proofs.SortingLaws.{permutation_below}
use Rattle.numbers.proofs.ReorderLaws.{order_long, position_of, get_or-gather}
use Rattle.affinity.specs.Permitted.{permitted, permitted_count, CoreByte}
use Rattle.affinity.proofs.PermittedLaws.{count_grows, count_within, count-full, full-count}
use Rattle.refusal.proofs.TestLaws.{accepted≢refused, by_accepted, by_refused, by_both, by_says}
use Rattle.refusal.proofs.ConditionLaws.{decides}
use Rattle.refusal.specs.declared.Cause.{Cause}
use Rattle.refusal.specs.Outcome.{Outcome}
use Rattle.fields.specs.Fields.{affinity_at, Free}
use Rattle.fields.specs.Limits.{Within}
use Rattle.fields.specs.declared.Fields.{Fields}
use Rattle.taskset.specs.declared.Reading.{Reading}
use Rattle.taskset.specs.Table.{Table, reading_of, Decided, Sound}
use Rattle.taskset.proofs.TableLaws.{table_accepts, table_within, read_answer}
use Rattle.planning.specs.Problem.{table_problem, order_of}
use Rattle.plans.proofs.SafeLaws.{demands_long, stated_order, order_permutation}
use Rattle.allocation.specs.Placement.{Problem}
use Rattle.allocation.specs.TableOrder.{in_planning_order}
use Rattle.allocation.proofs.Ceiling.{AllTwins, walk_steps, permitted_steps}
use Rattle.allocation.proofs.Reorder.{in_planning_order_long}
use Rattle.planner.specs.Plan.{plan_for, refused_plan, plan_of}
use Rattle.planner.specs.Promise.{walk_of}
use Rattle.planner.specs.declared.Verdict.TheVariants.{Spent}
use Rattle.planner.proofs.PlanLaws.{plan_accepted_is, plan_refused_is}
use Rattle.planner.proofs.PromiseLaws.{promised}
use Rattle.products.specs.Products.{cores_of, some_tied, factor_for, sum_of_products}
use Rattle.products.proofs.SumLaws.{sums_cong, sums_mono, formulas}
use Rattle.ceiling.specs.Ceiling.{planned_bytes, step_ceiling, ceiling_for, refused_ceiling, ceiling_by, ceiling_of}
use Rattle.ceiling.specs.Promise.{permitted_to, Ceils, Promise, free_ceiling, Few}
use Rattle.ceiling.specs.declared.StepCeiling.{StepCeiling}
use Rattle.ceiling.proofs.FreeLaws.{ceiling_grows, usual_ceilings}

-- ---- fields within the limits

module _ (f : Fields) (w : Within f) where
  abbrev P : Problem
  P = in_planning_order (table_problem f) (order_of f)

  abbrev n : ℕ
  n = f.n

  abbrev m : ℕ
  m = f.m

  order-tasks : length (order_of f) ≡ n
  order-tasks = order_long n (order_of f) (stated_order f w).1

  problem_long : length P.demands ≡ n
  problem_long = in_planning_order_long (table_problem f) (order_of f) (order_permutation f w) ∙ demands_long f w

  -- the core byte of the task at j in planning order is that of a task of the table
  byte_is : (j : ℕ) → j < n → (entry (order_of f) j < n) × (entry (planned_bytes f) j ≡ affinity_at f (entry (order_of f) j))
  byte_is j h =
      let below = permutation_below n (order_of f) (stated_order f w).1 j (omega (arith, order-tasks)) in
      (below, get_or-gather (order_of f) (tab n (affinity_at f)) j (omega (arith, order-tasks)) ∙ get_or-tab 0 n (affinity_at f) (entry (order_of f) j) below)

  fit : (j : ℕ) → j < n → CoreByte m (entry (planned_bytes f) j)
  fit j h = let b = byte_is j h in rw b.1 (w.affinities (entry (order_of f) j) b.0)

  -- its ones are the cores of the table that it permits
  cores_are : (j : ℕ) → j < n → cores_of (planned_bytes f) j ≡ permitted_count (entry (planned_bytes f) j) m
  cores_are j h = count_within m (entry (planned_bytes f) j) 8 (omega (arith, w.sizes.cores)) (fit j h)

  -- ---- whether some task is tied

  abbrev tied : Bool
  tied = some_tied (planned_bytes f) n m

  -- none is: every task permits every core
  module _ (e : tied ≡ false) where
    all-permitted : (j : ℕ) → j < n → (core : ℕ) → 1 ≤ core → core ≤ m → permitted (entry (planned_bytes f) j) core ≡ true
    unfolding some_tied
    all-permitted j h =
        let none = first_zero (λ k. not (eqb (cores_of (planned_bytes f) k) m)) n (eqb-true _ 0 (not-false _ e)) j h in
        count-full (entry (planned_bytes f) j) m (sym (cores_are j h) ∙ eqb-true _ m (not-false _ none))

    all-twins : AllTwins P
    unfolding table_problem
    all-twins c d i j k l t h =
        let b : t < n = omega (arith, problem_long) in
        all-permitted t b c k i ∙ sym (all-permitted t b d l j)

  -- some is: a task does not permit a core
  one-tied : (k : ℕ) → k < n → (core : ℕ) → 1 ≤ core → core ≤ m → permitted (affinity_at f k) core ≡ false → tied ≡ true
  one-tied k h core i l q =
      ⊎_elim (λ t. t)
      (λ e. let x = position_of n (order_of f) (stated_order f w).1 k h in
      let j : position (order_of f) k < n = omega (arith, x.0, order-tasks) in
      absurd (true≢false (sym (all-permitted e (position (order_of f) k) j core i l) ∙ rw ((byte_is (position (order_of f) k) j).1, x.1) q)))
      (true_or_false tied)

  none-tied : Free f → tied ≡ false
  unfolding some_tied
  none-tied free =
      rw (first_clear (λ k. not (eqb (cores_of (planned_bytes f) k) m)) n
      (λ j h. let b = byte_is j h in rw (eq-eqb _ m (cores_are j h ∙ full-count _ m (λ core i l. rw b.1 (free (entry (order_of f) j) b.0 core i l))))))

  -- ---- the factors

  tied_factor : tied ≡ true → (j : ℕ) → 1 ≤ j → j ≤ n → factor_for tied (planned_bytes f) m j ≡ permitted_to f j + 1
  unfolding factor_for permitted_count
  tied_factor e j i h =
      let b : pred j < n = omega arith in
      rw e (ap (λ (x : ℕ). x + 1) (cores_are (pred j) b ∙ ap (λ (byte : ℕ). permitted_count byte m) (byte_is (pred j) b).1))

  free_sum : tied ≡ false → step_ceiling f ≡ free_ceiling m n
  unfolding step_ceiling
  free_sum e = rw e (formulas (planned_bytes f) m n).free

  steps_within : length (walk_of f) ≤ step_ceiling f
  unfolding step_ceiling sum_of_products table_problem
  steps_within =
      ⊎_elim
      (λ e. le_trans (rw problem_long at (permitted_steps P))
      (sums_mono (λ j. permitted_count (entry (planned_bytes f) (pred j)) m + 1) (factor_for tied (planned_bytes f) m) n
      (λ j i h. rw (tied-byte e j) (omega (arith, count_grows (entry (planned_bytes f) (pred j)) m 8 (omega (arith, w.sizes.cores)))))))
      (λ e. le_trans (rw problem_long at (walk_steps P (all-twins e)))
      (le_of_eq (sym (free_sum e))))
      (true_or_false tied)
    where
      tied-byte : tied ≡ true → (j : ℕ) → factor_for tied (planned_bytes f) m j ≡ cores_of (planned_bytes f) (pred j) + 1
      tied-byte e j = unfold factor_for in rw e

  pub ceils : Ceils f (step_ceiling f)
  unfolding step_ceiling sum_of_products
  ceils = record {
    free = λ free. free_sum (none-tied free);
    tied = λ t. sums_cong _ (λ j. permitted_to f j + 1) n (tied_factor (one-tied t.0 t.1 t.2 t.3 t.4 t.5));
    ordered = stated_order f w;
    steps = steps_within;
  }

  never_spent : (limit : ℕ) → step_ceiling f ≤ limit → (plan_for f limit).verdict ≢ Spent
  never_spent limit h e = omega (arith, steps_within, (promised f w limit).spent.0 e)

-- what the code adds up is the ceiling
pub ceiling_is : (f : Fields) {l : List ℕ} → l ≡ planned_bytes f → {t : Bool} → t ≡ some_tied l f.n f.m
    → {x : ℕ} → x ≡ sum_of_products (factor_for t l f.m) f.n → x ≡ step_ceiling f
unfolding step_ceiling
ceiling_is f e u w = w ∙ rw (u, e)

-- ---- a table

pub ceiling_outcome : (t : Table) → (ceiling_of t).outcome ≡ t.outcome
unfolding ceiling_of ceiling_by ceiling_for refused_ceiling
ceiling_outcome t = by_says refused_ceiling ceiling_for (λ a. a.outcome) (λ c. refl) (λ f. refl) t.outcome t.fields

module _ {t : Table} (s : Sound t) where
  refused_promise : (c : Cause) → t.outcome ≡ Err c → Promise t (refused_ceiling c)
  unfolding refused_ceiling refused_plan
  refused_promise c e = record {
    valid = λ v. absurd (accepted≢refused ((table_accepts s).1 v) e);
    unspent = λ limit h. rw (plan_refused_is t limit e) (λ q. let z : ◌≡◌ {A = ℕ} 0 1 = cc in omega arith);
    refused = λ n. refl;
  }

  accepted_promise : t.outcome ≡ Ok tt → Promise t (ceiling_for t.fields)
  unfolding ceiling_for
  accepted_promise e = record {
    valid = λ v. ceils t.fields (s.within v);
    unspent = λ limit h. rw (plan_accepted_is t limit e) (never_spent t.fields (table_within s e) limit h);
    refused = λ n. absurd (n refl);
  }

  module _ {r : StepCeiling} (e : r ≡ ceiling_of t) where
    pub ceiling_decided : Decided t r.outcome
    ceiling_decided = rw (e, ceiling_outcome t) (decides s.tested)

    pub ceiling_promise : Promise t r
    unfolding ceiling_of ceiling_by
    ceiling_promise = rw e (by_both refused_ceiling ceiling_for (Promise t) t.outcome t.fields refused_promise accepted_promise)

-- all that is said of the ceiling of a table's reading
pub ceiling_all : {t : Table} → Sound t → {g : Reading} → g ≡ reading_of t → {r : StepCeiling} → r ≡ ceiling_by g.outcome g.tasks.fields
    → (r ≡ ceiling_of t) × (Decided t r.outcome × Promise t r)
unfolding ceiling_of ceiling_by
ceiling_all {t} s e {r} w = let a : r ≡ ceiling_of t = w ∙ read_answer t e refused_ceiling ceiling_for in (a, (ceiling_decided s a, ceiling_promise s a))

-- ---- by the outcome of the reading

pub ceiling_refused : (f : Fields) {o : Outcome} {c : Cause} → o ≡ Err c → ◌≡◌ {A = StepCeiling} (record { outcome = Err c; ceiling = 0 }) (ceiling_by o f)
unfolding ceiling_by refused_ceiling
ceiling_refused f q = sym (by_refused refused_ceiling ceiling_for f q)

pub ceiling_accepted : (f : Fields) {o : Outcome} → o ≡ Ok tt → {x : ℕ} → x ≡ step_ceiling f
    → ◌≡◌ {A = StepCeiling} (record { outcome = Ok tt; ceiling = x }) (ceiling_by o f)
unfolding ceiling_by ceiling_for
ceiling_accepted f q w = ap (λ x. record { outcome = Ok tt; ceiling = x }) w ∙ sym (by_accepted refused_ceiling ceiling_for f q)

-- ---- the usual limit

-- so few tasks that the ceiling is at most 1,000,000
few_steps : (f : Fields) → f.n ≤ 16 → Few f → free_ceiling f.m f.n ≤ 1000000
few_steps f h (inl e) = rw e (omega (arith, ceiling_grows 1 h, usual_ceilings.0))
few_steps f h (inr (inl x)) = rw x.0 (omega (arith, ceiling_grows 2 x.1, usual_ceilings.1))
few_steps f h (inr (inr (inl x))) = rw x.0 (omega (arith, ceiling_grows 3 x.1, usual_ceilings.2))
few_steps f h (inr (inr (inr x))) = rw x.0 (omega (arith, ceiling_grows 4 x.1, usual_ceilings.3))

pub few_unspent : {t : Table} → Sound t → t.Valid → Free t.fields → Few t.fields → (plan_of t 1000000).verdict ≢ Spent
few_unspent {t} s v free h =
    let p = ceiling_promise s refl in
    p.unspent 1000000 (rw ((p.valid v).free free) (few_steps t.fields (s.within v).sizes.tasks.1 h))
