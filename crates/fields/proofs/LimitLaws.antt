-- Fields are accepted exactly if they are within the limits, and refused with the first condition that holds.
use Prim.Native.Nat.{ℕ, ◌+◌, ◌-◌, ◌≤◌, ◌<◌}
use mathlib.Core.Path.{◌≡◌, refl, sym, ◌∙◌}
use mathlib.Core.List.{[], ◌∷◌}
use mathlib.Core.Bool.{true, false, true≢false}
use mathlib.Core.Logic.{◌↔◌, ⊎_elim}
use lib.ListN.{length}
use native.Mathlib.Omega.{arith}
use borrow.Author.Tests.{ltb-true, lt-ltb}
use Rattle.numbers.proofs.BoundLaws.{outside_exactly, not_outside, less_exactly, not_less, unequal_exactly, not_unequal}
use Rattle.numbers.proofs.MultipleLaws.{lcms_exactly}
use Rattle.numbers.proofs.BoolLaws.{true_or_false}
use Rattle.numbers.proofs.RowLaws.{entries_there}
use Rattle.affinity.specs.Permitted.{unfit, Unfit, every_core}
use Rattle.affinity.proofs.PermittedLaws.{unfit_says, fit_byte, fit_not, fit_some, every_fits}
use Rattle.refusal.specs.Tests.{in_order}
use Rattle.refusal.specs.Conditions.{Fails, None, Reports, Tested}
use Rattle.refusal.specs.declared.Cause.TheVariants.{TaskCount, CoreCount, Period, Budget, Hyperperiod, Charge, Cost, Affinity}
use Rattle.refusal.proofs.TestLaws.{in_order-append}
use Rattle.refusal.proofs.ConditionLaws.{test_only, test_at, ◌and◌, no_more, then_reports, none-append, ◌also◌}
use Rattle.fields.specs.Most.{most_tasks, most_cores, most_charge, longest_period, most_multiple}
use Rattle.fields.specs.Fields.{period_at, budget_at, cost_at, affinity_at}
use Rattle.fields.specs.Hyperperiod.{multiple_to, hyperperiod_of}
use Rattle.fields.specs.Tests.{charge_test, bad_period, periods_test, bad_budget, bad_cost, bad_affinity, exceeds, size_tests, limit_tests, fields_outcome}
use Rattle.fields.specs.Limits.{Sized, Within, Exceeds, sizes, charge_above, period_outside, budget_outside, cost_above, row_other, affinity_unfit, limits, field_conditions}
use Rattle.fields.specs.declared.Fields.{Fields}
use Rattle.fields.proofs.HyperperiodLaws.{multiple_bound}

-- a byte that is not unfit as a statement is not unfit by the test
not_unfit : (byte m : ℕ) → (Unfit byte m → ⊥) → unfit byte m ≡ false
not_unfit byte m n = ⊎_elim (λ t. absurd (n ((unfit_says byte m).0 t))) (λ e. e) (true_or_false (unfit byte m))

-- a byte that is fit is not unfit as a statement
fit_fails : (byte m : ℕ) → unfit byte m ≡ false → Unfit byte m → ⊥
fit_fails byte m e u = true≢false (sym ((unfit_says byte m).1 u) ∙ e)

module _ (f : Fields) where
  -- the multiple that is computed is the least common multiple
  exceeds_exactly : (k : ℕ) → (exceeds f k ≡ true) ↔ Exceeds f k
  unfolding exceeds multiple_to
  exceeds_exactly k = (
    λ e. let h = ltb-true most_multiple (multiple_to f (k + 1)) e in (multiple_to f (k + 1), (lcms_exactly (period_at f) (k + 1) (multiple_to f (k + 1)) (omega arith)).0 refl, h),
    λ x. lt-ltb most_multiple (multiple_to f (k + 1)) (rw (← (lcms_exactly (period_at f) (k + 1) x.0 (omega (arith, x.2))).1 x.1) x.2),
  )

  -- Each test reports its condition.
  pub sizes_reported : Reports (sizes f) (in_order (size_tests f))
  unfolding in_order
  sizes_reported =
      test_only TaskCount refl (outside_exactly 1 most_tasks f.n)
      and test_only CoreCount refl (outside_exactly 1 most_cores f.m)
      and no_more

  pub charge_reported : Reports (charge_above f ∷ []) (charge_test f)
  charge_reported = test_only Charge refl (less_exactly most_charge f.charge)

  pub periods_reported : Reports (period_outside f ∷ []) (periods_test f)
  unfolding bad_period
  periods_reported = test_at Period (λ k. (refl, refl)) (λ k. outside_exactly 1 longest_period (period_at f k))

  pub limits_reported : Reports (limits f) (in_order (limit_tests f))
  unfolding in_order bad_budget bad_cost bad_affinity
  limits_reported =
      charge_reported
      and periods_reported
      and test_at Budget (λ k. (refl, refl)) (λ k. outside_exactly 1 (period_at f k) (budget_at f k))
      and test_at Cost (λ k. (refl, refl)) (λ k. less_exactly (period_at f k) (cost_at f k))
      and test_only (Affinity 0) refl (unequal_exactly f.given f.n)
      and test_at Affinity (λ k. (refl, refl)) (λ k. unfit_says (affinity_at f k) f.m)
      and test_at Hyperperiod (λ k. (refl, refl)) exceeds_exactly
      and no_more

  -- No condition holds exactly where the limits are kept.
  pub sizes_kept : None (sizes f) ↔ Sized f
  sizes_kept = (
    λ n. record { tasks = (not_outside 1 most_tasks f.n).0 n.0; cores = (not_outside 1 most_cores f.m).0 n.1.0 },
    λ z. (not_outside 1 most_tasks f.n).1 z.tasks also (not_outside 1 most_cores f.m).1 z.cores also tt,
  )

  pub sizes-tested : Tested (Sized f) (sizes f) (in_order (size_tests f))
  sizes-tested = record { reports = sizes_reported; valid = sizes_kept }

  pub limits_kept : Sized f → None (limits f) → Within f
  unfolding hyperperiod_of exceeds
  limits_kept z n = record {
    sizes = z;
    charge = not_less most_charge f.charge n.0;
    periods = λ k h. (not_outside 1 longest_period (period_at f k)).0 (n.1.0 k h);
    budgets = λ k h. (not_outside 1 (period_at f k) (budget_at f k)).0 (n.1.1.0 k h);
    costs = λ k h. not_less (period_at f k) (cost_at f k) (n.1.1.1.0 k h);
    counted = not_unequal _ _ n.1.1.1.1.0;
    affinities = λ k h. fit_byte f.m (affinity_at f k) z.cores.1 (not_unfit (affinity_at f k) f.m (n.1.1.1.1.1.0 k h));
    multiple =
        let q : f.n ≡ f.n - 1 + 1 = omega (arith, z.tasks.0) in
        let m : multiple_to f (f.n - 1 + 1) ≤ most_multiple =
        not_less most_multiple _ (λ h. n.1.1.1.1.1.1.0 (f.n - 1) (omega arith) ((exceeds_exactly (f.n - 1)).0 (lt-ltb most_multiple _ h))) in
        rw (← q) at m;
  }

  pub within_kept : Within f → None (limits f)
  unfolding exceeds
  within_kept w =
      (λ h. omega (arith, w.charge))
      also (λ k h. (not_outside 1 longest_period (period_at f k)).1 (w.periods k h))
      also (λ k h. (not_outside 1 (period_at f k) (budget_at f k)).1 (w.budgets k h))
      also (λ k h g. omega (arith, w.costs k h))
      also (λ n. n w.counted)
      also (λ k h. fit_fails (affinity_at f k) f.m (fit_not f.m (affinity_at f k) (w.affinities k h)))
      also (λ k h x. omega (arith, multiple_bound w k h, ltb-true most_multiple (multiple_to f (k + 1)) ((exceeds_exactly k).1 x)))
      also tt

  -- The tests of fields report their conditions, and none holds exactly if the fields are within the limits.
  pub fields-tested : Tested (Within f) (field_conditions f) (fields_outcome f)
  unfolding fields_outcome
  fields-tested = record {
    reports = rw (in_order-append (size_tests f) (limit_tests f)) (then_reports (sizes f) (limits f) sizes_reported (λ _. limits_reported));
    valid = (
      λ n. let r = (none-append (sizes f) (limits f)).0 n in limits_kept (sizes_kept.0 r.0) r.1,
      λ w. (none-append (sizes f) (limits f)).1 (sizes_kept.1 w.sizes, within_kept w),
    );
  }

-- With charge 0 a cost is the budget, number 13 never holds, and number 14 only where number 6 does.
module _ (f : Fields) (e : f.charge ≡ 0) where
  pub cost_uncharged : (k : ℕ) → cost_at f k ≡ budget_at f k
  cost_uncharged k = omega arith

  pub charge_uncharged : Fails (charge_above f)
  charge_uncharged h = omega arith

  pub costs_uncharged : Fails (budget_outside f) → Fails (cost_above f)
  costs_uncharged n k h g = omega (arith, ((not_outside 1 (period_at f k) (budget_at f k)).0 (n k h)).1)

-- Where each task is given every core, number 15 never holds.
module _ (f : Fields) where
  pub row_every : f.given ≡ f.n → Fails (row_other f)
  row_every e n = n e

  pub affinity_every : Sized f → ((k : ℕ) → k < f.n → affinity_at f k ≡ every_core f.m) → Fails (affinity_unfit f)
  affinity_every z every k h = rw (every k h) (fit_fails (every_core f.m) f.m (every_fits f.m z.cores.0 z.cores.1))

-- Fields within the limits have an entry for each task.
module _ (f : Fields) (w : Within f) where
  pub periods_there : f.n ≤ length f.periods
  periods_there = entries_there f.n f.periods (λ k h. (w.periods k h).0)

  pub budgets_there : f.n ≤ length f.budgets
  budgets_there = entries_there f.n f.budgets (λ k h. (w.budgets k h).0)

  pub affinity_there : f.n ≤ length f.affinity
  affinity_there = entries_there f.n f.affinity (λ k h. fit_some f.m (affinity_at f k) (w.affinities k h))
