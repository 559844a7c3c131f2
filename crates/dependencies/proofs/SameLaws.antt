-- For lists that neither 19 nor 20 refuses, the answer depends only on which task feeds which.
use Rattle.std.specs.Prelude.{Ok, Err}
use Prim.Native.Nat.{ℕ, zero, suc}
use mathlib.Core.Path.{◌≡◌, refl, sym, ◌∙◌, ap}
use mathlib.Core.Bool.{Bool, true, false, true≢false}
use mathlib.Core.List.{List}
use mathlib.Core.Logic.{◌≢◌, ◌↔◌, ⊎_elim}
use native.Mathlib.Omega.{arith}
use Rattle.numbers.specs.First.{first}
use Rattle.numbers.specs.Rows.{padded}
use Rattle.numbers.proofs.BoolLaws.{true_or_false}
use Rattle.numbers.proofs.FirstLaws.{first_cong}
use Rattle.refusal.specs.Causes.{number_in}
use Rattle.refusal.specs.Tests.{◌then◌, refuse_if, refuse_at, in_order}
use Rattle.refusal.specs.declared.Cause.{Cause}
use Rattle.refusal.specs.declared.Cause.TheVariants.{PairList, Pair, Circle}
use Rattle.refusal.specs.Outcome.{Outcome}
use Rattle.refusal.proofs.TestLaws.{outcome_cases, then_first, then_refused, by_refused, by_accepted}
use Rattle.fields.specs.declared.Fields.{Fields}
use Rattle.taskset.specs.Table.{Table}
use Rattle.precedence.specs.Circles.{circular}
use Rattle.precedence.proofs.WidthLaws.{reach_cong, ordered_cong}
use Rattle.pairs.specs.Pairs.{pair_count, malformed, feeds}
use Rattle.pairs.proofs.FitLaws.{feeds_exactly}
use Rattle.feeding.specs.Tests.{unfit_at, pairs_test, circle_test, list_tests}
use Rattle.dependencies.specs.Order.{refused_order, order_for, order_by, order_of}
use Rattle.dependencies.specs.Promise.{SamePairs, Named}
use Rattle.dependencies.proofs.PromiseLaws.{by_outcome_lem}

-- tests that decide the same
decided_same : {P Q : Type 0} (a b : Bool) → (a ≡ true) ↔ P → (b ≡ true) ↔ Q → P ↔ Q → a ≡ b
decided_same a b p q h =
    ⊎_elim
    (λ e. e ∙ sym (q.1 (h.0 (p.0 e))))
    (λ e. e ∙ ⊎_elim (λ g. absurd (true≢false (sym (p.1 (h.1 (q.0 g))) ∙ e))) (λ g. sym g) (true_or_false b))
    (true_or_false a)

-- a test that does not give its number accepts
if_accepts : (test : Bool) (cause : Cause) (rest : Outcome) → number_in (refuse_if test cause then rest) ≢ number_in (Err cause) → refuse_if test cause then rest ≡ rest
unfolding refuse_if ◌then◌
if_accepts true cause rest n = absurd (n refl)
if_accepts false cause rest n = refl

at_accepts : (k : ℕ) (cause : ℕ → Cause) (number : ℕ) → ((k : ℕ) → number_in (Err (cause k)) ≡ number) → (rest : Outcome)
    → number_in (refuse_at k cause then rest) ≢ number → refuse_at k cause then rest ≡ rest
unfolding refuse_at ◌then◌
at_accepts zero cause number is rest n = refl
at_accepts (suc k) cause number is rest n = absurd (n (is (suc k)))

module _ (f : Fields) (list other : List ℕ) (same : SamePairs list other) where
  feeds-same : (a b : ℕ) → feeds list a b ≡ feeds other a b
  feeds-same a b = decided_same (feeds list a b) (feeds other a b) (feeds_exactly list a b) (feeds_exactly other a b) (same a b)

  circle_same : circle_test f list ≡ circle_test f other
  unfolding circular
  circle_same =
      ap (λ k. refuse_at k Circle) (first_cong (circular (feeds list) f.n) (circular (feeds other) f.n) f.n
      (λ k b. reach_cong (feeds list) (feeds other) (suc f.n) (λ a b x y. feeds-same a b) f.n (omega arith) (suc k) (suc k) (omega arith) (omega arith)))

  order_same : order_for list f ≡ order_for other f
  unfolding order_for
  order_same =
      ap (λ (l : List ℕ). record { outcome = Ok tt; order = padded l })
      (ordered_cong (feeds list) (feeds other) (suc f.n) (λ a b x y. feeds-same a b) f.n (omega arith) f.n)

-- a list that neither 19 nor 20 refuses is tested for circles
tests_are : (f : Fields) (list : List ℕ) → number_in (in_order (list_tests f list)) ≢ 19 → number_in (in_order (list_tests f list)) ≢ 20 → in_order (list_tests f list) ≡ circle_test f list then (Ok tt)
unfolding in_order
tests_are f list a b =
    let e = if_accepts (malformed list) PairList (pairs_test f list then (circle_test f list then (Ok tt))) a in
    e ∙ at_accepts (first (unfit_at f.n f.periods list) (pair_count list)) Pair 20 (λ k. refl) (circle_test f list then (Ok tt)) (λ q. b (ap number_in e ∙ q))

-- the answer by an outcome that both lists have
by_same : (f : Fields) (list other : List ℕ) → SamePairs list other → (o : Outcome) → order_by list o f ≡ order_by other o f
unfolding order_by
by_same f list other same o =
    ⊎_elim
    (λ e. by_accepted refused_order (order_for list) f e ∙ order_same f list other same ∙ sym (by_accepted refused_order (order_for other) f e))
    (λ e. by_refused refused_order (order_for list) f e.1 ∙ sym (by_refused refused_order (order_for other) f e.1))
    (outcome_cases o)

module _ (t : Table) (list other : List ℕ) (same : SamePairs list other) where
  -- where the table is refused
  refused_same : {c : Cause} → t.outcome ≡ Err c → order_of t list ≡ order_of t other
  unfolding order_of order_by
  refused_same e =
      by_refused refused_order (order_for list) t.fields (then_refused _ _ _ e)
      ∙ sym (by_refused refused_order (order_for other) t.fields (then_refused _ _ _ e))

  -- the outcome where it is not
  outcome_is : (l : List ℕ) → t.outcome ≡ Ok tt → (order_of t l).outcome ≡ in_order (list_tests t.fields l)
  unfolding order_of
  outcome_is l e = by_outcome_lem l _ t.fields ∙ then_first t.outcome (in_order (list_tests t.fields l)) e

  named_is : (l : List ℕ) → t.outcome ≡ Ok tt → Named (order_of t l) → in_order (list_tests t.fields l) ≡ circle_test t.fields l then (Ok tt)
  named_is l e n = tests_are t.fields l (λ q. n.formed (ap number_in (outcome_is l e) ∙ q)) (λ q. n.fit (ap number_in (outcome_is l e) ∙ q))

  -- Two lists with the same pairs, which neither 19 nor 20 refuses, get the same answer.
  pub answer-same : Named (order_of t list) → Named (order_of t other) → order_of t list ≡ order_of t other
  unfolding order_of
  answer-same a b =
      ⊎_elim
      (λ e. ap (λ o. order_by list (t.outcome then o) t.fields) (named_is list e a ∙ ap (λ o. o then (Ok tt)) (circle_same t.fields list other same) ∙ sym (named_is other e b))
      ∙ by_same t.fields list other same _)
      (λ e. refused_same e.1)
      (outcome_cases t.outcome)
