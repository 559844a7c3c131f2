-- Laws of tests made in order.
use Rattle.std.specs.Prelude.{Ok, Err, Option, Some, None}
use Prim.Native.Nat.{ℕ, zero, suc}
use mathlib.Core.Path.{◌≡◌, refl, sym, ◌∙◌, ap, ap₂}
use mathlib.Core.List.{List, [], ◌∷◌, ◌++◌}
use mathlib.Core.Bool.{Bool, true, false, not}
use lib.Dec.{eqb}
use mathlib.Core.Logic.{◌⊎◌, inl, inr}
use native.Mathlib.Omega.{arith}
use borrow.Author.Tests.{ne_eqb}
use Rattle.numbers.specs.First.{found}
use Rattle.refusal.specs.Tests.{◌then◌, refuse_if, refuse_at, in_order, by_outcome}
use Rattle.refusal.specs.declared.Cause.{Cause}
use Rattle.refusal.specs.Outcome.{Outcome}

-- an outcome is an acceptance or a refusal, and not both
pub accepted≢refused : {o : Outcome} {c : Cause} → o ≡ Ok tt → o ≡ Err c → ⊥
accepted≢refused p q = let z : ◌≡◌ {A = ℕ} 0 1 = cc in omega arith

pub outcome_cases : (o : Outcome) → (o ≡ Ok tt) ⊎ ((c : Cause) × (o ≡ Err c))
outcome_cases (Ok _) = inl refl
outcome_cases (Err c) = inr (c, refl)

-- two tests accept if each does
pub then_accepted : (a b : Outcome) → a then b ≡ Ok tt → (a ≡ Ok tt) × (b ≡ Ok tt)
unfolding ◌then◌
then_accepted (Ok _) b e = (refl, e)
then_accepted (Err c) b e = absurd (accepted≢refused e refl)

-- where they refuse, the first does, or the first accepts and the second refuses
pub then_cases : (a b : Outcome) (c : Cause) → a then b ≡ Err c → (a ≡ Err c) ⊎ ((a ≡ Ok tt) × (b ≡ Err c))
unfolding ◌then◌
then_cases (Ok _) b c e = inr (refl, e)
then_cases (Err d) b c e = inl e

pub then_first : (a b : Outcome) → a ≡ Ok tt → a then b ≡ b
unfolding ◌then◌
then_first a b e = rw e

pub then_refused : (a b : Outcome) (c : Cause) → a ≡ Err c → a then b ≡ Err c
unfolding ◌then◌
then_refused a b c e = rw e

-- a test whose condition is computed
pub refuse_if_accepted : (t : Bool) (c : Cause) → refuse_if t c ≡ Ok tt → t ≡ false
unfolding refuse_if
refuse_if_accepted true c e = absurd (accepted≢refused e refl)
refuse_if_accepted false c e = refl

pub refuse_if_refused : (t : Bool) (c d : Cause) → refuse_if t c ≡ Err d → (t ≡ true) × (c ≡ d)
unfolding refuse_if
refuse_if_refused true c d e = (refl, cc)
refuse_if_refused false c d e = absurd (accepted≢refused refl e)

-- a test that looks for a place
pub refuse_at_accepted : (k : ℕ) (c : ℕ → Cause) → refuse_at k c ≡ Ok tt → k ≡ 0
unfolding refuse_at
refuse_at_accepted zero c e = refl
refuse_at_accepted (suc k) c e = absurd (accepted≢refused e refl)

pub refuse_at_refused : (k : ℕ) (c : ℕ → Cause) (d : Cause) → refuse_at k c ≡ Err d → (j : ℕ) × (k ≡ suc j) × (c (suc j) ≡ d)
unfolding refuse_at
refuse_at_refused zero c d e = absurd (accepted≢refused refl e)
refuse_at_refused (suc k) c d e = (k, refl, cc)

pub refuse_at_zero : (k : ℕ) (c : ℕ → Cause) → k ≡ 0 → refuse_at k c ≡ Ok tt
unfolding refuse_at
refuse_at_zero k c e = rw e

pub refuse_found : (k : ℕ) (c : ℕ → Cause) → (k ≡ 0 → ⊥) → refuse_at k c ≡ Err (c k)
unfolding refuse_at
refuse_found zero c n = absurd (n refl)
refuse_found (suc k) c n = refl

-- two lists of tests, one after the other
pub in_order-append : (ts us : List Outcome) → in_order (ts ++ us) ≡ in_order ts then in_order us
unfolding in_order ◌then◌
in_order-append [] us = refl
in_order-append ((Ok _) ∷ ts) us = in_order-append ts us
in_order-append (Err c ∷ ts) us = refl

-- three tests, the first two or all of them first
pub then_then : (a b c : Outcome) → (a then b) then c ≡ a then (b then c)
unfolding ◌then◌
then_then (Ok _) b c = refl
then_then (Err d) b c = refl

-- a test that accepts wherever the one before it does can be left out
pub then_again : (a b c : Outcome) → (a ≡ Ok tt → b ≡ Ok tt) → a then (b then c) ≡ a then c
unfolding ◌then◌
then_again (Ok _) b c h = then_first b c (h refl)
then_again (Err d) b c h = refl

-- where a list of tests accepts, each of them does
abbrev pub Accepting : List Outcome → Type 0
Accepting [] = Unit {0}
Accepting (t ∷ ts) = (t ≡ Ok tt) × Accepting ts

pub each_accepts : (ts : List Outcome) → in_order ts ≡ Ok tt → Accepting ts
unfolding in_order
each_accepts [] e = tt
each_accepts (t ∷ ts) e = let r = then_accepted t (in_order ts) e in (r.0, each_accepts ts r.1)

-- The steps of a program that makes its tests and joins them.
pub refuse_at_by : (c : ℕ → Cause) {k w : ℕ} {r : Outcome} → r ≡ refuse_if (not (eqb k 0)) (c k) → k ≡ w → r ≡ refuse_at w c
unfolding refuse_if refuse_at
refuse_at_by c {k = zero} e d = rw (← d) e
refuse_at_by c {k = suc k} e d = rw (← d) (rw (ne_eqb (suc k) 0 (λ z. omega arith)) at e)

pub order_step : {t o x r : Outcome} (ts : List Outcome) → r ≡ t then o → t ≡ x → o ≡ in_order ts → r ≡ in_order (x ∷ ts)
unfolding in_order
order_step ts e p q = e ∙ ap₂ ◌then◌ p q

pub order_last : {t x : Outcome} → t ≡ x → t ≡ in_order (x ∷ [])
unfolding in_order ◌then◌
order_last {x = Ok _} e = e
order_last {x = Err c} e = e

-- A place that a search hands back.
pub named_there : {p : Option ℕ} {k j : ℕ} {x : Cause} (named : ℕ → Cause) → p ≡ Some k → p ≡ found j → (k ≡ j → x ≡ named j) → Err x ≡ refuse_at j named
unfolding found refuse_at
named_there {j = zero} named e q m = cc
named_there {j = suc j} named e q m = let s : Some _ ≡ Some (suc j) = sym e ∙ q in ap Err (m (cc))

pub named_nowhere : {p : Option ℕ} (j : ℕ) (named : ℕ → Cause) → p ≡ None → p ≡ found j → Ok tt ≡ refuse_at j named
unfolding found refuse_at
named_nowhere zero named e q = refl
named_nowhere (suc j) named e q = cc

-- What a call answers by the outcome of its tests.
module _ {A B : Type 0} (no : Cause → A) (yes : B → A) where
  pub by_accepted : {o : Outcome} (x : B) → o ≡ Ok tt → by_outcome no yes o x ≡ yes x
  unfolding by_outcome
  by_accepted x e = rw e

  pub by_refused : {o : Outcome} (x : B) {c : Cause} → o ≡ Err c → by_outcome no yes o x ≡ no c
  unfolding by_outcome
  by_refused x e = rw e

  -- it has what both have
  pub by_both : (P : A → Type 0) (o : Outcome) (x : B) → ((c : Cause) → o ≡ Err c → P (no c)) → (o ≡ Ok tt → P (yes x)) → P (by_outcome no yes o x)
  unfolding by_outcome
  by_both P (Err c) x n y = n c refl
  by_both P (Ok _) x n y = y refl

  -- and says that outcome, where each of both says its own
  pub by_says : (says : A → Outcome) → ((c : Cause) → says (no c) ≡ Err c) → ((x : B) → says (yes x) ≡ Ok tt) → (o : Outcome) (x : B) → says (by_outcome no yes o x) ≡ o
  unfolding by_outcome
  by_says says n y (Err c) x = n c
  by_says says n y (Ok _) x = y x
