-- The tests of a list and of a pair say what the plain statements say, and so does the relation that the pairs make.
use Prim.Native.Nat.{ℕ, zero, suc, pred, ◌+◌, ◌*◌, ◌%◌, ◌≤◌, ◌<◌, ◌∣◌}
use mathlib.Core.Path.{◌≡◌, refl, sym, ◌∙◌}
use mathlib.Core.Bool.{Bool, true, false, not, ◌&&◌, ◌||◌, or-true, true≢false}
use mathlib.Core.List.{List, [], ◌∷◌}
use mathlib.Core.Logic.{◌⊎◌, inl, inr, ◌↔◌, ◌≢◌, ⊎_elim, by_cases}
use lib.Dec.{eqb, ltb}
use lib.ListN.{length, get_or}
use native.Mathlib.Decide.{ℕ_discrete}
use native.Mathlib.Nat.{dvd_refl, dvd_of_mod-eq-zero, mod-eq-zero_of_dvd}
use native.Mathlib.Omega.{arith}
use borrow.Author.Tests.{eq-eqb, ne_eqb, eqb-true, eqb-false, lt-ltb, ltb-true, not-false}
use Rattle.numbers.specs.Bounds.{outside}
use Rattle.numbers.proofs.BoolLaws.{true_or_false, or_cases, or_false_left, or_false_right, and_left, and_right}
use Rattle.numbers.proofs.BoundLaws.{not_outside, outside_exactly, unequal_exactly, not_unequal, not_less}
use Rattle.refusal.specs.Conditions.{Tested}
use Rattle.refusal.specs.declared.Cause.TheVariants.{PairList}
use Rattle.refusal.proofs.ConditionLaws.{one-tested}
use Rattle.precedence.specs.Paths.{Task, AmongTasks}
use Rattle.pairs.specs.Pairs.{pair_count, feeding, fed, malformed, list_test, multiple, harmonic, period_of, unfit, said_by, feeds}
use Rattle.pairs.specs.Fit.{WellFormed, Feeds, Fit, PairFits, list_unformed}

-- ---- the list's shape

malformed_exactly : (list : List ℕ) → (malformed list ≡ true) ↔ ((length list ≡ 0) ⊎ ((64 < get_or list 0 0) ⊎ (length list ≢ 1 + 2 * get_or list 0 0)))
unfolding malformed
malformed_exactly list = (
  λ e.
      ⊎_elim
      (λ a. ⊎_elim (λ b. inl (eqb-true (length list) 0 b)) (λ b. inr (inl (ltb-true 64 (pair_count list) b)))
      (or_cases (eqb (length list) 0) (ltb 64 (pair_count list)) a))
      (λ a. inr (inr ((unequal_exactly (length list) (1 + 2 * pair_count list)).0 a)))
      (or_cases (eqb (length list) 0 || ltb 64 (pair_count list)) (not (eqb (length list) (1 + 2 * pair_count list))) e),
  λ w. elim w [
    | inl e ↦ rw (eq-eqb (length list) 0 e)
    | inr v ↦ elim v [
      | inl h ↦ rw (lt-ltb 64 (pair_count list) h, or-true)
      | inr n ↦ rw (ne_eqb (length list) (1 + 2 * pair_count list) n, or-true)
    ]
  ],
)

pub list_tested : (list : List ℕ) → Tested (WellFormed list) (list_unformed list ∷ []) (list_test list)
list_tested list = one-tested PairList refl (malformed_exactly list) (
  λ n. record {
    some = let d : length list ≢ 0 = λ e. n (inl e) in omega arith;
    few = not_less 64 (get_or list 0 0) (λ h. n (inr (inl h)));
    exact = not_unequal (length list) (1 + 2 * get_or list 0 0) (λ d. n (inr (inr d)));
  },
  λ w v. elim v [
    | inl e ↦ omega (arith, w.some)
    | inr u ↦ elim u [ inl h ↦ omega (arith, w.few) | inr n ↦ n w.exact ]
  ],
)

-- ---- one pair

multiple_exactly : (p q : ℕ) → (multiple p q ≡ true) ↔ (q ∣ p)
unfolding multiple
multiple_exactly p q = (λ e. dvd_of_mod-eq-zero q (eqb-true (p % q) 0 e), λ d. eq-eqb (p % q) 0 (mod-eq-zero_of_dvd q d))

-- equal, or one a multiple of the other
harmonic_exactly : (p q : ℕ) → (harmonic p q ≡ true) ↔ ((p ≡ q) ⊎ ((p ∣ q) ⊎ (q ∣ p)))
harmonic_exactly p q = (
  λ e. ⊎_elim (λ a. inr (inr ((multiple_exactly p q).0 a))) (λ a. inr (inl ((multiple_exactly q p).0 a))) (or_cases (multiple p q) (multiple q p) e),
  λ w. elim w [
    | inl e ↦ rw (e, (multiple_exactly q q).1 (dvd_refl q))
    | inr v ↦ elim v [
      | inl d ↦ rw ((multiple_exactly q p).1 d, or-true)
      | inr d ↦ rw ((multiple_exactly p q).1 d)
    ]
  ],
)

-- the period of a task
period_is : (periods : List ℕ) (t : ℕ) → 1 ≤ t → period_of periods t ≡ get_or periods (pred t) 0
unfolding period_of
period_is periods zero h = absurd (omega arith)
period_is periods (suc k) h = refl

module _ (n : ℕ) (periods : List ℕ) (a b : ℕ) where
  -- one of the tasks 1 to n
  task_is : (t : ℕ) → outside 1 n t ≡ false → Task n t
  task_is t e =
      let r = (not_outside 1 n t).0 (λ o. true≢false (sym ((outside_exactly 1 n t).1 o) ∙ e)) in
      record { least = r.0; most = r.1 }

  is_task : (t : ℕ) → Task n t → outside 1 n t ≡ false
  is_task t k =
      ⊎_elim (λ e. absurd ((not_outside 1 n t).1 (k.least, k.most) ((outside_exactly 1 n t).0 e))) (λ e. e) (true_or_false (outside 1 n t))

  abbrev same : Bool
  same = harmonic (period_of periods a) (period_of periods b)

  fit_is : unfit n periods a b ≡ false → Fit n periods a b
  unfolding unfit
  fit_is e =
      let front : ((outside 1 n a || outside 1 n b) || eqb a b) ≡ false = or_false_left ((outside 1 n a || outside 1 n b) || eqb a b) (not same) e in
      let tasks : (outside 1 n a || outside 1 n b) ≡ false = or_false_left (outside 1 n a || outside 1 n b) (eqb a b) front in
      let x : Task n a = task_is a (or_false_left (outside 1 n a) (outside 1 n b) tasks) in
      let y : Task n b = task_is b (or_false_right (outside 1 n a) (outside 1 n b) tasks) in
      record {
        feeding = x;
        fed = y;
        apart = eqb-false a b (or_false_right (outside 1 n a || outside 1 n b) (eqb a b) front);
        harmonic =
            rw (period_is periods a x.least, period_is periods b y.least)
            at ((harmonic_exactly (period_of periods a) (period_of periods b)).0 (not-false same (or_false_right ((outside 1 n a || outside 1 n b) || eqb a b) (not same) e)));
      }

  is_fit : Fit n periods a b → unfit n periods a b ≡ false
  unfolding unfit
  is_fit f =
      let h : same ≡ true =
      (harmonic_exactly (period_of periods a) (period_of periods b)).1
      (rw (period_is periods a f.feeding.least, period_is periods b f.fed.least) f.harmonic) in
      rw (is_task a f.feeding, is_task b f.fed, ne_eqb a b f.apart, h)

  pub unfit_exactly : (unfit n periods a b ≡ true) ↔ (Fit n periods a b → ⊥)
  unfit_exactly = (
    λ e f. true≢false (sym e ∙ is_fit f),
    λ h. ⊎_elim (λ e. e) (λ e. absurd (h (fit_is e))) (true_or_false (unfit n periods a b)),
  )

  -- what is not unfit fits
  pub not_unfit : ((Fit n periods a b → ⊥) → ⊥) → Fit n periods a b
  not_unfit h = fit_is (⊎_elim (λ e. absurd (h (unfit_exactly.0 e))) (λ e. e) (true_or_false (unfit n periods a b)))

-- ---- who feeds whom

module _ (list : List ℕ) (a b : ℕ) where
  said_is : (k : ℕ) → said_by list k a b ≡ true → (i : ℕ) × (i < k) × (feeding list i ≡ a) × (fed list i ≡ b)
  unfolding said_by
  said_is zero e = absurd (true≢false (sym e))
  said_is (suc k) e =
      ⊎_elim
      (λ h. let r = said_is k h in (r.0, omega (arith, r.1), r.2, r.3))
      (λ h. (k, omega arith, eqb-true (feeding list k) a (and_left (eqb (feeding list k) a) (eqb (fed list k) b) h), eqb-true (fed list k) b (and_right (eqb (feeding list k) a) (eqb (fed list k) b) h)))
      (or_cases (said_by list k a b) (eqb (feeding list k) a && eqb (fed list k) b) e)

  is_said : (k i : ℕ) → i < k → feeding list i ≡ a → fed list i ≡ b → said_by list k a b ≡ true
  unfolding said_by
  is_said zero i h p q = absurd (omega arith)
  is_said (suc k) i h p q =
      by_cases (ℕ_discrete i k)
      (λ e. rw (eq-eqb (feeding list k) a (rw e at p), eq-eqb (fed list k) b (rw e at q), or-true))
      (λ d. rw (is_said k i (omega arith) p q))

  pub feeds_exactly : (feeds list a b ≡ true) ↔ Feeds list a b
  unfolding feeds feeding fed
  feeds_exactly = (said_is (pair_count list), λ f. is_said (pair_count list) f.0 f.1 f.2 f.3)

-- where every pair fits only tasks feed and are fed
pub fit_among : (n : ℕ) (periods list : List ℕ) → ((i : ℕ) → i < get_or list 0 0 → PairFits n periods list i) → AmongTasks n (Feeds list)
fit_among n periods list h a b f = let g = h f.0 f.1 in (rw f.2 at g.feeding, rw f.3 at g.fed)
