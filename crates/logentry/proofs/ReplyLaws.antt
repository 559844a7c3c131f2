-- The reply by the outcome, and why a place and a count fit.
use Rattle.std.specs.Prelude.{Ok, Err}
use mathlib.Core.Path.{◌≡◌, refl, sym, ◌∙◌, ap, subst}
use mathlib.Core.Logic.{⊎_elim}
use mathlib.Core.Bool.{Bool, true, false, not}
use mathlib.Core.List.{List, [], ◌∷◌}
use Prim.Native.Nat.{ℕ, zero, suc, ◌≤◌, ◌<◌, ◌^◌, zero-le}
use native.Mathlib.Omega.{arith}
use borrow.Author.Tests.{ltb-false}
use lib.Dec.{eqb}
use lib.ListN.{length}
use Rattle.std.specs.Prelude.{Result, Ok, Err}
use Rattle.numbers.specs.First.{first}
use Rattle.numbers.proofs.FirstLaws.{first_is}
use Rattle.refusal.specs.Causes.{number_of, place_of, number_in, place_in}
use Rattle.refusal.specs.Tests.{◌then◌, refuse_if, refuse_at, by_outcome}
use Rattle.refusal.specs.declared.Cause.{Cause}
use Rattle.refusal.specs.declared.Cause.TheVariants.{Answer, LogRoom, Record}
use Rattle.refusal.specs.Outcome.{Outcome}
use Rattle.refusal.proofs.TestLaws.{refuse_if_accepted, outcome_cases}
use Rattle.runs.specs.declared.Run.{Run}
use Rattle.runs.specs.declared.Logged.{Logged}
use Rattle.runs.specs.Runs.{runs}
use Rattle.runs.specs.Fit.{unfit}
use Rattle.runs.specs.Lent.{logged_by}
use Rattle.runs.proofs.RunLaws.{runs_le}
use Rattle.runs.proofs.LentLaws.{logged_outcome}
use Rattle.recording.specs.Tests.{above_at, answers_test, write_outcome, write_answer}
use Rattle.recording.proofs.WriteLaws.{write_accepted, count_accepted, count_refused}
use Rattle.replay.specs.declared.Audit.{Audit}
use Rattle.replay.specs.Tests.{expand_answer, with_run, audited, audit_of, audit_start, audit_answer}
use Rattle.replay.proofs.AuditLaws.{InRange, range_step, audit_answers}
use Rattle.refusal.specs.Conditions.{Condition, Decides}
use Rattle.logentry.specs.Reply.{reply_of, Replies}
use Rattle.logentry.specs.declared.Reply.{Reply}

-- ---- by the outcome

pub reply_accepted : {a : Logged} → a.outcome ≡ Ok tt → ◌≡◌ {A = Reply} (record { number = 0; place = 0; count = a.count }) (reply_of a)
unfolding reply_of
reply_accepted {a} e = λ i. record { number = ap number_in (sym e) i; place = ap place_in (sym e) i; count = a.count }

pub reply_refused : {a : Logged} {c : Cause} {n p : ℕ} → a.outcome ≡ Err c → n ≡ number_of c → p ≡ place_of c → ◌≡◌ {A = Reply} (record { number = n; place = p; count = a.count }) (reply_of a)
unfolding reply_of
reply_refused {a} e f g = λ i. record { number = (f ∙ ap number_in (sym e)) i; place = (g ∙ ap place_in (sym e)) i; count = a.count }

-- what an answer decides and promises, its reply does
module _ (a : Logged) {r : Reply} (e : r ≡ reply_of a) where
  same_number : r.number ≡ number_in a.outcome
  unfolding reply_of
  same_number = ap (λ (x : Reply). x.number) e

  same_place : r.place ≡ place_in a.outcome
  unfolding reply_of
  same_place = ap (λ (x : Reply). x.place) e

  same_count : r.count ≡ a.count
  unfolding reply_of
  same_count = ap (λ (x : Reply). x.count) e

  pub reply_decides : {Valid : Type 0} {cs : List Condition} → Decides Valid cs a.outcome → Replies Valid cs r
  reply_decides d = record { accepted = rw (same_number, same_place) d.accepted; refused = λ n p h. rw (same_number, same_place) (d.refused n p h) }

  -- whatever is said of number and count
  pub reply_says : (P : ℕ → ℕ → Type 0) → P (number_in a.outcome) a.count → P r.number r.count
  reply_says P x = rw (same_number, same_count) x

-- ---- what `in_numbers` asks

abbrev Low : Outcome → Type 0
Low o = place_in o ≤ 60001

abbrev pub Fits : Logged → Type 0
Fits a = Low a.outcome × (a.count ≤ 60000)

pub place_fits : {a : Logged} {c : Cause} {p : ℕ} → a.outcome ≡ Err c → Fits a → p ≡ place_of c → p < 2 ^ 32
place_fits e h g = let z = g ∙ ap place_in (sym e) in omega (arith, z, h.0)

-- the places of tests in order
low_if : (t : Bool) (c : Cause) → place_of c ≡ 0 → Low (refuse_if t c)
unfolding refuse_if
low_if true c e = omega (arith, e)
low_if false c e = zero-le

low_at : (k : ℕ) (c : ℕ → Cause) → ((j : ℕ) → place_of (c j) ≡ j) → k ≤ 60001 → Low (refuse_at k c)
unfolding refuse_at
low_at zero c e h = zero-le
low_at (suc k) c e h = let z = e (suc k) in omega (arith, z, h)

low_then : (o p : Outcome) → Low o → (o ≡ Ok tt → Low p) → Low (o then p)
unfolding ◌then◌
low_then (Ok _) p h g = g refl
low_then (Err c) p h g = h

-- a count is at most that of an acceptance
logged_count : (o : Outcome) (n : ℕ) → (logged_by o n).count ≤ n
unfolding logged_by by_outcome
logged_count (Ok _) n = omega arith
logged_count (Err c) n = zero-le

-- ---- of writing

first_le : (p : ℕ → Bool) (n : ℕ) → first p n ≤ n
first_le p n = go (first p n) refl
  where
    go : (k : ℕ) → first p n ≡ k → first p n ≤ n
    go zero e = omega (arith, e)
    go (suc k) e = let b = (first_is p n k e).below in omega (arith, e, b)

low_write : (xs : List ℕ) (room : ℕ) → Low (write_outcome xs room)
unfolding write_outcome answers_test
low_write xs room =
    low_then _ _
    (low_then _ _ (low_if _ (Answer 0) refl)
    (λ e. low_at _ Answer (λ j. refl) (let h = ltb-false 60000 (length xs) (refuse_if_accepted _ _ e) in let f = first_le (above_at xs) (length xs) in omega (arith, h, f))))
    (λ _. low_if _ LogRoom refl)

count_write : (xs : List ℕ) (room : ℕ) → (write_answer xs room).count ≤ 60000
count_write xs room =
    ⊎_elim
    (λ (e : write_outcome xs room ≡ Ok tt). let n = count_accepted xs room e in let f = (write_accepted xs room e).0 in let r = runs_le 0 xs in omega (arith, n, f, r))
    (λ (e : (c : Cause) × (write_outcome xs room ≡ Err c)). let n = count_refused xs room e.0 e.1 in omega (arith, n))
    (outcome_cases (write_outcome xs room))

pub write_fits : (xs : List ℕ) (room : ℕ) {a : Logged} → a ≡ write_answer xs room → Fits a
unfolding write_answer
write_fits xs room e = subst Fits (sym e) (subst Low (sym (logged_outcome (write_outcome xs room) (length (runs xs)))) (low_write xs room), count_write xs room)

-- ---- of expanding: an unfit record stands one behind those that were seen

abbrev Found : Result Audit ℕ → Type 0
Found (Ok a) = InRange a
Found (Err place) = place ≤ 60001

found-all : (a : Audit) (rs : List Run) → InRange a → Found (audit_of a rs)
found-all a [] s = s
found-all a (r ∷ rs) s = go (unfit a.before a.sum r) refl (found-all (with_run a r) rs)
  where
    go : (t : Bool) → unfit a.before a.sum r ≡ t → (InRange (with_run a r) → Found (audit_of (with_run a r) rs)) → Found (audit_of a (r ∷ rs))
    go true e ih = rw e (omega (arith, s))
    go false e ih = let fit : Ok (with_run a r) ≡ audited a r = rw e refl in rw e (ih (range_step a r fit s))

audit_fits : (found : Result Audit ℕ) (room : ℕ) → Found found → Fits (audit_answer found room)
audit_fits (Ok a) room s =
    let o : Outcome = refuse_if (not (eqb a.sum room)) (Record 0) in
    let n = logged_count o a.sum in
    (subst Low (sym (logged_outcome o a.sum)) (low_if _ (Record 0) refl), omega (arith, n, s))
audit_fits (Err place) room s =
    let n = logged_count (Err (Record place)) 0 in
    (subst Low (sym (logged_outcome (Err (Record place)) 0)) s, omega (arith, n))

pub expand-fits : (rs : List Run) (room : ℕ) {a : Logged} → a ≡ expand_answer rs room → Fits a
expand-fits rs room e = subst Fits (audit_answers rs room ∙ sym e) (audit_fits (audit_of audit_start rs) room (found-all audit_start rs (zero-le, zero-le)))
