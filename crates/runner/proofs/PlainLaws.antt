-- The tick, as it is defined, is what the plain words say.
use Prim.Native.Nat.{ℕ, suc, ◌-◌, ◌<◌}
use mathlib.Core.Path.{◌≡◌, refl, sym, ◌∙◌}
use mathlib.Core.Bool.{Bool, true, false, cond, true≢false, not-eq-not}
use mathlib.Core.Logic.{◌⊎◌, inl, inr, ⊎_elim, ◌↔◌, by_cases}
use mathlib.Core.List.{List}
use native.Mathlib.Omega.{arith}
use native.Mathlib.Decide.{ℕ_discrete}
use native.Mathlib.Nat.{min-le_left}
use lib.Dec.{eqb}
use lib.ListN.{length, get_or}
use borrow.Author.Tests.{eqb-true, eqb-false, ltb-true, not-true, eq-eqb, ne_eqb, lt-ltb}
use Rattle.numbers.specs.First.{FirstAt}
use Rattle.numbers.proofs.BoolLaws.{and_left, and_right}
use Rattle.numbers.proofs.BoundLaws.{not_less}
use Rattle.numbers.proofs.FirstLaws.{first_zero, first_is, is_first_map}
use Rattle.edf.specs.declared.Slot.{Slot}
use Rattle.edf.specs.Slots.{occupied, slot_at, slot_test, first_slot}
use Rattle.edf.specs.Tick.{owed_for, due, late as late_of, first_late, release_slot, release, release_all, chosen, ran, run as run_slot, advance, advance_all, stepped}
use Rattle.edf.proofs.DemandLaws.{due_now}
use Rattle.edf.proofs.SlotSteps.{ready_at, ready-length, advanced-at, advanced-length}
use Rattle.edf.proofs.ChoiceLaws.{claim_slot, slot_claim}
use Rattle.edf.proofs.NamingLaws.{chosen-names}
use Rattle.runner.specs.declared.Ticked.{Ticked}
use Rattle.runner.specs.Answers.{tick_answer}
use Rattle.runner.specs.Plain.{PeriodBegins, StillOwes, PlainRelease, PlainChoice, PlainNext, PlainTick}

-- The late task.
due_says : (s : Slot) → due s ≡ true → PeriodBegins s
due_says s e = (
  eqb-false s.period 0 (not-true _ (and_left (occupied s) (eqb s.until 0) e)),
  eqb-true s.until 0 (and_right (occupied s) (eqb s.until 0) e),
)

late_says : (s : Slot) → late_of s ≡ true → StillOwes s
late_says s e = (due_says s (and_left (due s) _ e), ltb-true 0 s.remaining (and_right (due s) _ e))

late-tests : (s : Slot) → StillOwes s → late_of s ≡ true
late-tests s h = rw (ne_eqb s.period 0 h.0.0, eq-eqb s.until 0 h.0.1, lt-ltb 0 s.remaining h.1) refl

plain_late : (slots : List Slot)
    → ((first_late slots ≡ 0) × ((i : ℕ) → i < 16 → StillOwes (slot_at slots i) → ⊥)) ⊎ FirstAt (λ i. StillOwes (slot_at slots i)) 16 (first_late slots)
unfolding first_slot slot_test
plain_late slots =
    by_cases (ℕ_discrete (first_late slots) 0)
    (λ z. inl (z, λ i h o. true≢false (sym (late-tests (slot_at slots i) o) ∙ first_zero (slot_test late_of slots) 16 z i h)))
    (λ n. let e : first_late slots ≡ suc (first_late slots - 1) = omega arith in
    let f = first_is (slot_test late_of slots) 16 (first_late slots - 1) e in
    inr (first_late slots - 1, e, is_first_map (λ i b. late_says (slot_at slots i)) (λ i b. late-tests (slot_at slots i)) f))

-- The releases.
plain_release : (charge asked : ℕ) (s : Slot) → PeriodBegins s → PlainRelease charge asked s (release_slot charge asked s)
unfolding owed_for
plain_release charge asked s h =
    rw (due_now s (omega (arith, h.0)) h.1)
    (record {
      period = refl;
      budget = refl;
      until = refl;
      unasked = λ e. rw (eq-eqb asked 0 e) (omega (arith, min-le_left asked s.budget));
      asked_for = λ n. rw (ne_eqb asked 0 n) refl;
    })

plain_kept : (charge asked : ℕ) (s : Slot) → (PeriodBegins s → ⊥) → release_slot charge asked s ≡ s
plain_kept charge asked s h = let q : due s ≡ false = not-eq-not.0 (λ e. h (due_says s e)) in rw q

released-at : (charge : ℕ) (requests : List ℕ) (slots : List Slot) (i : ℕ)
    → slot_at (release_all charge requests slots) i ≡ release_slot charge (get_or requests i 0) (slot_at slots i)
unfolding release
released-at charge requests slots i = let back : suc i - 1 ≡ i = omega arith in rw back at (ready_at charge requests slots i)

-- The choice.
module _ (ready : List Slot) (sixteen : length ready ≡ 16) where
  plain_idle : (chosen ready ≡ 0) ↔ ((i : ℕ) → i < 16 → (slot_at ready i).remaining ≡ 0)
  plain_idle =
      ⊎_elim
      (λ n. (λ e i h. omega (arith, not_less 0 _ (λ o. rw n.0 at (slot_claim 1 ready i o))), λ h. n.1))
      (λ n. let a = claim_slot 1 ready n.0 n.1.claims in
      (λ e i h. omega (arith, n.2, a.number), λ h. omega (arith, a.owes, h a.index (omega (arith, a.below)))))
      (chosen-names ready)

  plain_choice : (i : ℕ) → chosen ready ≡ suc i → PlainChoice ready i
  plain_choice i e =
      ⊎_elim
      (λ n. absurd (omega (arith, n.1)))
      (λ n. let a = claim_slot 1 ready n.0 n.1.claims in
      let same : a.index ≡ i = omega (arith, n.2, a.number) in
      rw (← same) (record {
        below = omega (arith, a.below);
        owes = a.owes;
        soonest = λ j h o. omega (arith, a.deadline, n.1.least _ (slot_claim 1 ready j o));
        lowest = λ j h o t. omega (arith, a.number, n.1.lowest _ (slot_claim 1 ready j o) (t ∙ sym a.deadline));
      }))
      (chosen-names ready)

-- The record handed back: a slot with its two fields that fall, each by its test
abbrev falling : Slot → Bool → Bool → Slot
falling s a b = record {
  period = s.period;
  budget = s.budget;
  until = cond b (s.until - 1) s.until;
  remaining = cond a (s.remaining - 1) s.remaining;
}

advance-slot : (task k : ℕ) (s : Slot) → falling s (eqb k task) (occupied s) ≡ advance k (run_slot task k s)
advance-slot task k s = go (eqb k task) (occupied s) refl
  where
    go : (a b : Bool) → occupied s ≡ b → falling s a b ≡ advance k (cond a (ran s) s)
    go true true e = rw e
    go true false e = rw e
    go false true e = rw e
    go false false e = rw e

plain_next : (task k : ℕ) (s : Slot) → PlainNext (k ≡ task) s (advance k (run_slot task k s))
plain_next task k s = rw (← advance-slot task k s) (record {
  period = refl;
  budget = refl;
  until = λ n. rw (ne_eqb s.period 0 n) refl;
  until_empty = λ e. rw (eq-eqb s.period 0 e) refl;
  runs-one = λ e. rw (eq-eqb k task e) refl;
  waits = λ n. rw (ne_eqb k task n) refl;
})

pub plain_stepped : (charge : ℕ) (slots : List Slot) (requests : List ℕ) (r : Ticked) → length slots ≡ 16 → tick_answer r ≡ stepped charge slots requests
    → PlainTick charge slots requests r
unfolding tick_answer stepped
plain_stepped charge slots requests r size e =
    let ready : List Slot = release_all charge requests slots in
    let sixteen : length ready ≡ 16 = ready-length charge requests slots ∙ size in
    let run : r.run ≡ chosen ready = λ i. (e i).run in
    let next : r.core.slots ≡ advance_all r.run ready = rw run (λ i. (e i).slots) in
    let late : r.late ≡ first_late slots = λ i. (e i).late in
    record {
      late = rw late (plain_late slots);
      ready = ready;
      ready-sixteen = sixteen;
      released = λ i h b. rw (released-at charge requests slots i) (plain_release charge (get_or requests i 0) (slot_at slots i) b);
      kept = λ i h n. rw (released-at charge requests slots i) (plain_kept charge (get_or requests i 0) (slot_at slots i) n);
      idle = rw run (plain_idle ready sixteen);
      runs = rw run (plain_choice ready sixteen);
      charge_kept = λ i. (e i).charge;
      next = λ i h. rw (next, advanced-at r.run ready i) (plain_next r.run (suc i) (slot_at ready i));
      next_sixteen = rw next (advanced-length r.run ready ∙ sixteen);
    }
