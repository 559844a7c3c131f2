-- The runner follows the book: slots and entries agree before each tick, so both name the same task.
use Prim.Native.Nat.{ℕ, zero, suc, ◌+◌, ◌*◌, ◌-◌, ◌/◌, ◌%◌, ◌≤◌, ◌<◌}
use mathlib.Core.Path.{◌≡◌, refl, sym, ap, ◌∙◌}
use mathlib.Core.Logic.{◌⊎◌, inl, inr}
use mathlib.Core.Bool.{true, false, cond}
use mathlib.Core.List.{List, [], ◌∷◌, map}
use native.Mathlib.Omega.{arith}
use native.Mathlib.Nat.{eq-zero-or-pos, mul-mod_left, div-eq_of_lt-le, div-add-mod'}
use native.Mathlib.Decide.{ℕ_discrete}
use lib.Dec.{eqb}
use borrow.Author.Tests.{le-leb, lt-leb, eq-eqb, ne_eqb, lt-ltb, le-ltb}
use Rattle.numbers.proofs.BoolLaws.{cond_both}
use Rattle.edf.specs.declared.Slot.{Slot}
use Rattle.edf.specs.Slots.{empty_slot, slot_at, each_from}
use Rattle.edf.specs.declared.Claim.{Claim}
use Rattle.edf.specs.Earliest.{sooner, soonest, earliest}
use Rattle.edf.specs.Tick.{request, owed_for, release, release_all, claims_from, chosen, ran, run, advance, advance_all, stepped, ticked}
use Rattle.edf.specs.Book.{BookEntry, begins, period_end, renewed, renew, claims, given, give, claimed}
use Rattle.edf.specs.Guarantee.{runs}
use Rattle.edf.proofs.DemandLaws.{split, due_now, due-later, advance-occupied}
use Rattle.edf.proofs.ChoiceLaws.{chosen_owes}
use Rattle.edf.proofs.StepLaws.{Good, tick-stepped, stepped_good}

-- The slots, numbered from k, beside the book's entries: an entry for each occupied slot.
pub data Beside (P : ℕ → Slot → BookEntry → Type 0) : ℕ → List Slot → List BookEntry → Type 0 where
  done : {k : ℕ} → Beside P k [] []
  skip : {k : ℕ} {s : Slot} {slots : List Slot} {es : List BookEntry} → s ≡ empty_slot → Beside P (suc k) slots es → Beside P k (s ∷ slots) es
  both : {k : ℕ} {s : Slot} {e : BookEntry} {slots : List Slot} {es : List BookEntry} → P k s e → Beside P (suc k) slots es → Beside P k (s ∷ slots) (e ∷ es)

-- A claim with its deadline later by t.
abbrev shifted : ℕ → Claim → Claim
shifted t c = record { task = c.task; deadline = t + c.deadline }

shift_sooner : (t : ℕ) (c d : Claim) → sooner (shifted t c) (shifted t d) ≡ shifted t (sooner c d)
shift_sooner t c d = elim (split c.deadline d.deadline) [
  | inl h ↦ rw (le-ltb (t + d.deadline) (t + c.deadline) (omega arith), le-ltb d.deadline c.deadline h) refl
  | inr h ↦ rw (lt-ltb (t + d.deadline) (t + c.deadline) (omega arith), lt-ltb d.deadline c.deadline h) refl
]

shift_soonest : (t : ℕ) (c : Claim) (cs : List Claim) → (soonest (shifted t c) (map (shifted t) cs)).task ≡ (soonest c cs).task
shift_soonest t c [] = refl
shift_soonest t c (d ∷ ds) =
    ap (λ x. (soonest x (map (shifted t) ds)).task) (shift_sooner t c d) ∙ shift_soonest t (sooner c d) ds

shift_earliest : (t : ℕ) (cs : List Claim) → earliest (map (shifted t) cs) ≡ earliest cs
shift_earliest t [] = refl
shift_earliest t (c ∷ cs) = shift_soonest t c cs

-- The book's periods, from the ticks u until the next release: it comes p periods after the first.
begins_now : (t p : ℕ) (e : BookEntry) → t ≡ e.first_release + p * e.period → begins t e ≡ true
begins_now t p e h =
    let d : t - e.first_release ≡ p * e.period = omega arith in
    rw (le-leb e.first_release t (omega arith), d, mul-mod_left p e.period) refl

-- the number of the present period
present : (t u p : ℕ) (e : BookEntry) → 0 < u → u ≤ e.period → t + u ≡ e.first_release + suc p * e.period
    → (t - e.first_release) / e.period ≡ p
present t u p e h l q = div-eq_of_lt-le e.period (omega arith) (omega arith)

begins_not : (t u p : ℕ) (e : BookEntry) → 0 < u → u < e.period → t + u ≡ e.first_release + p * e.period → begins t e ≡ false
begins_not t u zero e h l q = rw (lt-leb e.first_release t (omega arith)) refl
begins_not t u (suc p) e h l q =
    let m = rw (present t u p e h (omega arith) q) at (div-add-mod' (t - e.first_release) e.period) in
    rw (le-leb e.first_release t (omega arith)) (ne_eqb ((t - e.first_release) % e.period) 0 (λ z. omega arith))

ends_at : (t u p : ℕ) (e : BookEntry) → 0 < p → 0 < u → u ≤ e.period → t + u ≡ e.first_release + p * e.period
    → period_end t e ≡ t + u
ends_at t u zero e b h l q = absurd (omega arith)
ends_at t u (suc p) e b h l q = rw (present t u p e h l q) (omega arith)

-- A slot and its entry at tick t. `jobs` is the number of releases so far; the next is at tick t + until.
pub record Agree (t k : ℕ) (s : Slot) (e : BookEntry) : Type 0 where
  pub number : e.task ≡ k
  pub period : e.period ≡ s.period
  pub budget : e.budget ≡ s.budget
  pub jobs : ℕ
  pub phase : t + s.until ≡ e.first_release + jobs * e.period
  pub books : e.received + s.remaining ≡ e.owed
  pub begun : 0 < e.owed → 0 < jobs

-- They agree so too at another tick, with other ticks until release and owed, and another account.
agree_at : {t t₁ k u r owed received : ℕ} {s : Slot} {e : BookEntry} → Agree t k s e → (jobs : ℕ)
    → t₁ + u ≡ e.first_release + jobs * e.period → received + r ≡ owed → (0 < owed → 0 < jobs)
    → Agree t₁ k (record { period = s.period; budget = s.budget; until = u; remaining = r })
    (record { task = e.task; period = e.period; budget = e.budget; first_release = e.first_release; owed = owed; received = received })
agree_at a jobs phase books begun = record {
  number = a.number;
  period = a.period;
  budget = a.budget;
  jobs = jobs;
  phase = phase;
  books = books;
  begun = begun;
}

-- They agree before the tick, where least is 0, and within it after the releases, where it is 1.
abbrev pub Paired : ℕ → ℕ → ℕ → Slot → BookEntry → Type 0
Paired least t k s e = Agree t k s e × ((least ≤ s.until) × (s.until < least + s.period))

-- The book's claims are the runner's, counted from tick 0.
same-claims : (t : ℕ) {k : ℕ} {slots : List Slot} {es : List BookEntry} → Beside (Paired 1 t) k slots es
    → claims t es ≡ map (shifted t) (claims_from k slots)
same-claims t done = refl
same-claims t (skip {s = s} m r) = rw m (same-claims t r)
same-claims t (both {s = s} {e = e} p r) = elim (eq-zero-or-pos s.remaining) [
  | inl z ↦ rw (le-ltb e.received e.owed (omega arith), le-ltb 0 s.remaining (omega arith)) (same-claims t r)
  | inr h ↦
      let owes : e.received < e.owed = omega arith in
      let end = ends_at t s.until p.0.jobs e (p.0.begun (omega arith)) (omega arith) (omega arith) p.0.phase in
      rw (lt-ltb e.received e.owed owes, lt-ltb 0 s.remaining h, p.0.number, end, same-claims t r) refl
]

-- The task that runs has received one tick more in the book, and owes one less in its slot.
advance-beside : (t j : ℕ) {k : ℕ} {slots : List Slot} {es : List BookEntry} → ((i : ℕ) → k + i ≡ j → 0 < (slot_at slots i).remaining) → Beside (Paired 1 t) k slots es
    → Beside (Paired 0 (suc t)) k (each_from k advance (each_from k (run j) slots)) (give j es)
advance-beside t j c done = done
advance-beside t j c (skip {k = k} {s = s} m r) =
    skip {s = advance k (run j k s)} (rw m (cond_both (λ x. advance k x ≡ empty_slot) (eqb k j) _ _ refl refl))
    (advance-beside t j (λ i e. c (suc i) (omega arith)) r)
advance-beside t j c (both {k = k} {s = s} {e = e} p r) =
    both (after (ℕ_discrete k j)) (advance-beside t j (λ i e. c (suc i) (omega arith)) r)
  where
    a : Agree t k s e
    a = p.0

    after : Dec (k ≡ j) → Paired 0 (suc t) k (advance k (run j k s)) (cond (eqb e.task j) (given e) e)
    after (yes q) =
        rw (eq-eqb k j q, eq-eqb e.task j (a.number ∙ q), advance-occupied k (ran s) (omega arith))
        (agree_at a a.jobs (omega arith) (omega (arith, c 0 (omega arith))) a.begun, omega arith)
    after (no q) =
        rw (ne_eqb k j q, ne_eqb e.task j (λ n. q (sym a.number ∙ n)), advance-occupied k s (omega arith))
        (agree_at a a.jobs (omega arith) a.books a.begun, omega arith)

module _ (charge : ℕ) where
  -- A tick releases the slots whose period the book begins.
  open_all : (t : ℕ) (requests : List ℕ) {k : ℕ} {slots : List Slot} {es : List BookEntry} → Beside (Paired 0 t) k slots es
      → Beside (Paired 1 t) k (each_from k (release charge requests) slots) (renew charge t requests es)
  unfolding release
  open_all t requests done = done
  open_all t requests (skip {k = k} {s = s} m r) = skip {s = release charge requests k s} (rw m refl) (open_all t requests r)
  open_all t requests (both {k = k} {s = s} {e = e} p r) = both (go (eq-zero-or-pos s.until)) (open_all t requests r)
    where
      a : Agree t k s e
      a = p.0

      go : (s.until ≡ 0) ⊎ (0 < s.until) → Paired 1 t k (release charge requests k s)
          (cond (begins t e) (renewed e (owed_for charge e.budget (request requests e.task))) e)
      go (inl z) =
          rw (due_now s (omega arith) z, begins_now t a.jobs e (omega arith))
          (agree_at a (suc a.jobs) (omega arith) (rw (a.budget, a.number) (omega arith)) (omega arith), omega arith)
      go (inr h) =
          rw (due-later s h, begins_not t s.until a.jobs e h (omega arith) a.phase) (a, omega arith)

  pub follows : (ticks : List (List ℕ)) (t : ℕ) (slots : List Slot) (es : List BookEntry) → Good charge slots → Beside (Paired 0 t) 1 slots es
      → runs (ticked charge slots ticks) ≡ map earliest (claimed charge t es ticks)
  unfolding stepped advance_all release_all chosen
  follows [] t slots es g b = refl
  follows (requests ∷ rest) t slots es g b =
      let ready : List Slot = release_all charge requests slots in
      let j : ℕ = chosen ready in
      let o : Beside (Paired 1 t) 1 ready (renew charge t requests es) = open_all t requests b in
      let n : earliest (claims t (renew charge t requests es)) ≡ j = ap earliest (same-claims t o) ∙ shift_earliest t (claims_from 1 ready) in
      rw (tick-stepped charge slots requests g, n)
      (ap (λ (l : List ℕ). j ∷ l)
      (follows rest (suc t) (stepped charge slots requests).slots (give j (renew charge t requests es)) (stepped_good charge slots requests g)
      (advance-beside t j (chosen_owes ready) o)))
