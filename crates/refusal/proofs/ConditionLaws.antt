-- Tests made in order decide a list of conditions, where each test reports its own.
use Rattle.std.specs.Prelude.{Ok, Err}
use Prim.Native.Nat.{ℕ, suc, ◌≤◌}
use mathlib.Core.Path.{◌≡◌, refl, sym, ◌∙◌, ap}
use mathlib.Core.List.{List, [], ◌∷◌, ◌++◌}
use mathlib.Core.Bool.{Bool, true, true≢false}
use mathlib.Core.Logic.{◌⊎◌, inl, inr, ⊎_elim, ⊎_map, ◌↔◌}
use native.Mathlib.Omega.{arith}
use Rattle.numbers.specs.First.{first}
use Rattle.numbers.proofs.BoundLaws.{less_exactly, not_less}
use Rattle.numbers.proofs.FirstLaws.{first_is, first_zero, is_first_unique, is_first_map}
use Rattle.refusal.specs.Causes.{number_of, place_of, number_in, place_in}
use Rattle.refusal.specs.Tests.{◌then◌, refuse_if, refuse_at, room_test}
use Rattle.refusal.specs.Conditions.{Condition, only, at, numbered, HoldsAt, Fails, None, First, Gives, Decides, Reports, Tested, no_room}
use Rattle.refusal.specs.declared.Cause.{Cause}
use Rattle.refusal.specs.Outcome.{Outcome}
use Rattle.refusal.proofs.CauseLaws.{number_range}
use Rattle.refusal.proofs.TestLaws.{accepted≢refused, outcome_cases, then_accepted, then_cases, refuse_if_accepted, refuse_if_refused, refuse_at_accepted, refuse_at_refused}

-- ---- the first condition that holds

place_unique : (c : Condition) {p q : ℕ} → HoldsAt c p → HoldsAt c q → p ≡ q
place_unique (only number P) a b = a.1 ∙ sym b.1
place_unique (at number P n) a b = a.1 ∙ ap suc (is_first_unique a.2 b.2) ∙ sym b.1

fails_nowhere : (c : Condition) (p : ℕ) → Fails c → HoldsAt c p → ⊥
fails_nowhere (only number P) p f h = f h.0
fails_nowhere (at number P n) p f h = f h.0 h.2.below h.2.here

first_unique : (cs : List Condition) {k l p q : ℕ} → First cs k p → First cs l q → (k ≡ l) × (p ≡ q)
first_unique (c ∷ cs) (inl a) (inl b) = (a.0 ∙ sym b.0, place_unique c a.1 b.1)
first_unique (c ∷ cs) {p = p} (inl a) (inr b) = absurd (fails_nowhere c p b.0 a.1)
first_unique (c ∷ cs) {q = q} (inr a) (inl b) = absurd (fails_nowhere c q a.0 b.1)
first_unique (c ∷ cs) (inr a) (inr b) = first_unique cs a.1 b.1
first_unique [] {k = k} {l = l} {p = p} {q = q} x'' _ = elim x'' [ ]

pub none_first : (cs : List Condition) (k p : ℕ) → None cs → First cs k p → ⊥
none_first (c ∷ cs) k p n (inl a) = fails_nowhere c p n.0 a.1
none_first (c ∷ cs) k p n (inr a) = none_first cs k p n.1 a.1
none_first [] k p n x'' = elim x'' [ ]

-- a list after another
pub none-append : (cs ds : List Condition) → None (cs ++ ds) ↔ (None cs × None ds)
none-append [] ds = (λ n. (tt, n), λ n. n.1)
none-append (c ∷ cs) ds = (
  λ n. let r = (none-append cs ds).0 n.1 in ((n.0, r.0), r.1),
  λ n. (n.0.0, (none-append cs ds).1 (n.0.1, n.1)),
)

-- rows given one by one: `a also b also tt`
infixr 30 ◌also◌
pub ◌also◌ : {A B : Type 0} → A → B → A × B
a also b = (a, b)

first-front : (cs ds : List Condition) (k p : ℕ) → First cs k p → First (cs ++ ds) k p
first-front (c ∷ cs) ds k p (inl a) = inl a
first-front (c ∷ cs) ds k p (inr a) = inr (a.0, first-front cs ds k p a.1)
first-front [] ds k p x' = elim x' [ ]

pub first-behind : (cs ds : List Condition) (k p : ℕ) → None cs → First ds k p → First (cs ++ ds) k p
first-behind [] ds k p n f = f
first-behind (c ∷ cs) ds k p n f = inr (n.0, first-behind cs ds k p n.1 f)

-- the first of both lists is the first of one, or the first of the other where none of the one holds
pub first_either : (cs ds : List Condition) (k p : ℕ) → First (cs ++ ds) k p → First cs k p ⊎ (None cs × First ds k p)
first_either [] ds k p f = inr (tt, f)
first_either (c ∷ cs) ds k p (inl a) = inl (inl a)
first_either (c ∷ cs) ds k p (inr a) = ⊎_map (λ f. inr (a.0, f)) (λ f. ((a.0, f.0), f.1)) (first_either cs ds k p a.1)

-- the numbers of a list of conditions are all of this kind, and so is that of the first to hold
abbrev pub Numbers : (ℕ → Type 0) → List Condition → Type 0
Numbers P [] = Unit {0}
Numbers P (c ∷ cs) = P (numbered c) × Numbers P cs

pub first_number : (P : ℕ → Type 0) (cs : List Condition) → Numbers P cs → (k p : ℕ) → First cs k p → P k
first_number P (c ∷ cs) h k p (inl a) = rw a.0 h.0
first_number P (c ∷ cs) h k p (inr a) = first_number P cs h.1 k p a.1
first_number P [] h k p x'' = elim x'' [ ]

-- a condition that does not hold where those before it do not can be left out of a list
module _ (c : Condition) (ds : List Condition) where
  none_without : (cs : List Condition) → (None cs → Fails c) → None (cs ++ c ∷ ds) ↔ None (cs ++ ds)
  none_without cs f = (
    λ n. let r = (none-append cs (c ∷ ds)).0 n in (none-append cs ds).1 (r.0, r.1.1),
    λ n. let r = (none-append cs ds).0 n in (none-append cs (c ∷ ds)).1 (r.0, (f r.0, r.1)),
  )

  first_without : (cs : List Condition) → (None cs → Fails c) → (k p : ℕ) → First (cs ++ c ∷ ds) k p → First (cs ++ ds) k p
  first_without [] f k p (inl a) = absurd (fails_nowhere c p (f tt) a.1)
  first_without [] f k p (inr a) = a.1
  first_without (b ∷ cs) f k p (inl a) = inl a
  first_without (b ∷ cs) f k p (inr a) = inr (a.0, first_without cs (λ n. f (a.0, n)) k p a.1)

-- ---- what an outcome reports of a list of conditions

-- one call's tests after another's; the second may take for granted that no condition of the first holds
pub then_reports : (cs ds : List Condition) {o p : Outcome} → Reports cs o → (None cs → Reports ds p) → Reports (cs ++ ds) (o then p)
then_reports cs ds {o} {p} a b = record {
  accepted = λ e. let r = then_accepted o p e in let n = a.accepted r.0 in (none-append cs ds).1 (n, (b n).accepted r.1);
  refused = λ c e.
      ⊎_elim
      (λ q. first-front cs ds _ _ (a.refused c q))
      (λ q. let n = a.accepted q.0 in first-behind cs ds _ _ n ((b n).refused c q.1))
      (then_cases o p c e);
}

-- a test that computes its condition
pub test_only : {P : Type 0} {t : Bool} (c : Cause) → place_of c ≡ 0 → (t ≡ true) ↔ P → Reports (only (number_of c) P ∷ []) (refuse_if t c)
test_only {P} {t} c z h = record {
  accepted = λ e. (λ x. true≢false (sym (h.1 x) ∙ refuse_if_accepted t c e), tt);
  refused = λ d e. let r = refuse_if_refused t c d e in inl (ap number_of (sym r.1), (h.0 r.0, ap place_of (sym r.1) ∙ z));
}

-- a test that looks for the first index
pub test_at : {P : ℕ → Type 0} {p : ℕ → Bool} {n number : ℕ} (cause : ℕ → Cause)
    → ((k : ℕ) → (number_of (cause k) ≡ number) × (place_of (cause k) ≡ k))
    → ((k : ℕ) → (p k ≡ true) ↔ P k) → Reports (at number P n ∷ []) (refuse_at (first p n) cause)
test_at {P} {p} {n} {number} cause is h = record {
  accepted = λ e. (λ k b x. true≢false (sym ((h k).1 x) ∙ first_zero p n (refuse_at_accepted _ cause e) k b), tt);
  refused = λ d e.
      let r = refuse_at_refused (first p n) cause d e in
      inl (
        ap number_of (sym r.2) ∙ (is (suc r.0)).0,
        (r.0, ap place_of (sym r.2) ∙ (is (suc r.0)).1, is_first_map (λ k b. (h k).0) (λ k b. (h k).1) (first_is p n r.0 r.1)),
      );
}

-- one test after another, each for the next condition of the list: `a and b and c and no_more`
pub no_more : Reports [] (Ok tt)
no_more = record { accepted = λ e. tt; refused = λ c e. absurd (accepted≢refused refl e) }

infixr 30 ◌and◌
pub ◌and◌ : {c : Condition} {t o : Outcome} {cs : List Condition} → Reports (c ∷ []) t → Reports cs o → Reports (c ∷ cs) (t then o)
◌and◌ {c} {cs = cs} a b = then_reports (c ∷ []) cs a (λ _. b)

-- ---- what reports its conditions decides, where none holds exactly if the call is valid

-- an outcome without a number is no refusal, and one with a number is
pub no_number : (o : Outcome) → number_in o ≡ 0 → o ≡ Ok tt
no_number (Ok _) z = refl
no_number (Err c) z = absurd (omega (arith, (number_range c).0, z))

pub some_number : (o : Outcome) → (number_in o ≡ 0 → ⊥) → (c : Cause) × (o ≡ Err c)
some_number (Ok _) n = absurd (n refl)
some_number (Err c) n = (c, refl)

pub gives_refused : (o : Outcome) (number place : ℕ) → 1 ≤ number → Gives o number place
    → (cause : Cause) × (o ≡ Err cause) × (number_of cause ≡ number) × (place_of cause ≡ place)
gives_refused (Ok _) number place h g = absurd (omega (arith, g.0))
gives_refused (Err cause) number place h g = (cause, refl, g.0, g.1)

accepted_gives : {o : Outcome} → o ≡ Ok tt → Gives o 0 0
accepted_gives e = (ap number_in e, ap place_in e)

module _ {cs : List Condition} {o : Outcome} (r : Reports cs o) where
  none_accepted : None cs → o ≡ Ok tt
  none_accepted n = ⊎_elim (λ e. e) (λ e. absurd (none_first cs _ _ n (r.refused e.0 e.1))) (outcome_cases o)

  pub first-given : {k p : ℕ} → First cs k p → Gives o k p
  first-given {k} {p} f =
      ⊎_elim
      (λ e. absurd (none_first cs k p (r.accepted e) f))
      (λ e. let u = first_unique cs (r.refused e.0 e.1) f in (ap number_in e.1 ∙ u.0, ap place_in e.1 ∙ u.1))
      (outcome_cases o)

  given-first : {k p : ℕ} → 1 ≤ k → Gives o k p → First cs k p
  given-first {k} {p} h g =
      ⊎_elim
      (λ e. absurd (omega (arith, sym (ap number_in e) ∙ g.0)))
      (λ e. rw (← g.0, ← g.1, e.1) (r.refused e.0 e.1))
      (outcome_cases o)

-- Tests that report their conditions decide,
pub decides : {Valid : Type 0} {cs : List Condition} {o : Outcome} → Tested Valid cs o → Decides Valid cs o
decides {o = o} t = record {
  accepted = (
    λ g. t.valid.0 (t.reports.accepted (no_number o g.0)),
    λ v. accepted_gives (none_accepted t.reports (t.valid.1 v)),
  );
  refused = λ k p h. (given-first t.reports h, first-given t.reports);
}

-- and those of two calls, one after the other, decide both; the second may take for granted that no condition of the first holds.
pub join_after : {A B : Type 0} {cs ds : List Condition} {o p : Outcome} → Tested A cs o → (None cs → Tested B ds p) → Tested (A × B) (cs ++ ds) (o then p)
join_after {cs = cs} {ds} a b = record {
  reports = then_reports cs ds a.reports (λ n. (b n).reports);
  valid = (
    λ n. let r = (none-append cs ds).0 n in (a.valid.0 r.0, (b r.0).valid.0 r.1),
    λ v. let n = a.valid.1 v.0 in (none-append cs ds).1 (n, (b n).valid.1 v.1),
  );
}

pub join : {A B : Type 0} {cs ds : List Condition} {o p : Outcome} → Tested A cs o → Tested B ds p → Tested (A × B) (cs ++ ds) (o then p)
join a b = join_after a (λ _. b)

-- A condition that never is the first to hold need not be named.
pub unnamed : {Valid : Type 0} {o : Outcome} (cs : List Condition) (c : Condition) (ds : List Condition) → (None cs → Fails c)
    → Tested Valid (cs ++ c ∷ ds) o → Tested Valid (cs ++ ds) o
unnamed cs c ds f t = record {
  reports = record {
    accepted = λ e. (none_without c ds cs f).0 (t.reports.accepted e);
    refused = λ d e. first_without c ds cs f _ _ (t.reports.refused d e);
  };
  valid = (λ n. t.valid.0 ((none_without c ds cs f).1 n), λ v. (none_without c ds cs f).0 (t.valid.1 v));
}

-- nor need several, one after another
pub unnamed_all : {Valid : Type 0} {o : Outcome} (cs bs ds : List Condition) → (None cs → None bs)
    → Tested Valid (cs ++ (bs ++ ds)) o → Tested Valid (cs ++ ds) o
unnamed_all cs [] ds f t = t
unnamed_all cs (b ∷ bs) ds f t = unnamed_all cs bs ds (λ n. (f n).1) (unnamed cs b (bs ++ ds) (λ n. (f n).0) t)

-- what a decision says of an acceptance
pub accepts : {Valid : Type 0} {cs : List Condition} {o : Outcome} → Decides Valid cs o → (o ≡ Ok tt) ↔ Valid
accepts {o = o} d = (λ e. d.accepted.0 (accepted_gives e), λ v. no_number o (d.accepted.1 v).0)

-- outcomes of the same number and place decide the same
pub decides_same : {Valid : Type 0} {cs : List Condition} (o p : Outcome) → number_in o ≡ number_in p → place_in o ≡ place_in p → Decides Valid cs p → Decides Valid cs o
decides_same o p a b d = record { accepted = rw (a, b) d.accepted; refused = λ k q h. rw (a, b) (d.refused k q h) }

-- the same tests under limits that say the same
pub tested_as : {A B : Type 0} {cs : List Condition} {o : Outcome} → A ↔ B → Tested A cs o → Tested B cs o
tested_as h t = record { reports = t.reports; valid = (λ n. h.0 (t.valid.0 n), λ v. t.valid.1 (h.1 v)) }

-- one test, of a condition that fails exactly where a limit is kept
pub one-tested : {A P : Type 0} {t : Bool} (c : Cause) → place_of c ≡ 0 → (t ≡ true) ↔ P → (P → ⊥) ↔ A → Tested A (only (number_of c) P ∷ []) (refuse_if t c)
one-tested c z h k = record { reports = test_only c z h; valid = (λ n. k.0 n.0, λ a. (k.1 a, tt)) }

-- the test of a lent output's room
pub room_tested : (c : Cause) → place_of c ≡ 0 → (size room : ℕ) → Tested (size ≤ room) (no_room (number_of c) size room ∷ []) (room_test c size room)
room_tested c z size room = one-tested c z (less_exactly room size) (not_less _ _, λ h g. omega arith)
