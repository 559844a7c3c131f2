-- A tick takes exactly the records with a charge of at most 9 whose slots can all be, and refuses another for its charge or its first slot that cannot.
use Rattle.std.specs.Prelude.{Ok, Err}
use Prim.Native.Nat.{ℕ, ◌+◌, ◌%◌, ◌≤◌, ◌<◌}
use mathlib.Core.Path.{◌≡◌, refl, sym, ◌∙◌, ap}
use mathlib.Core.List.{List}
use mathlib.Core.Bool.{Bool, true, false, not, ◌&&◌, ◌||◌, or-true, true≢false, not-eq-not}
use mathlib.Core.Logic.{inl, inr, by_cases}
use lib.Dec.{eqb, ltb, leb}
use native.Mathlib.Omega.{arith}
use native.Mathlib.Decide.{ℕ_discrete, dec_lt}
use native.Mathlib.Nat.{mod-eq_of_lt}
use borrow.Author.Tests.{eqb-true, eqb-false, eq-eqb, ne_eqb, lt-ltb, le-ltb, le-leb, ltb-true, ltb-false, leb-false, not-false}
use Rattle.numbers.proofs.BoolLaws.{or_false_left, or_false_right}
use Rattle.numbers.proofs.BoundLaws.{less_exactly, not_less}
use Rattle.numbers.proofs.FirstLaws.{Holds, first_zero}
use Rattle.refusal.specs.Tests.{◌then◌, refuse_if, refuse_at}
use Rattle.refusal.specs.Conditions.{Decides}
use Rattle.refusal.specs.declared.Cause.TheVariants.{Slot as WrongSlot}
use Rattle.refusal.specs.Outcome.{Outcome}
use Rattle.refusal.proofs.TestLaws.{refuse_at_zero, refuse_found}
use Rattle.refusal.proofs.ConditionLaws.{test_only, test_at, ◌and◌, decides}
use Rattle.edf.specs.declared.Slot.{Slot}
use Rattle.edf.specs.Slots.{slot_at, slot_test, first_slot, cannot_be, first_wrong, CanBe}
use Rattle.edf.proofs.StepLaws.{allowed}
use Rattle.runner.specs.Records.{ValidRecord, record_conditions}

not_zero : (x : ℕ) → not (eqb x 0) ≡ false → x ≡ 0
not_zero x e = eqb-true x 0 (not-false (eqb x 0) e)

-- where the test does not hold, the slot can be
can_be : (charge : ℕ) (s : Slot) → cannot_be charge s ≡ false → CanBe charge s
can_be charge s e = go (eqb s.period 0) refl
  where
    go : (b : Bool) → eqb s.period 0 ≡ b → CanBe charge s
    go true q =
        let a = or_false_left _ false (rw q at e) in
        let b = or_false_left _ (not (eqb s.remaining 0)) a in
        let p = eqb-true s.period 0 q in
        let x = not_zero s.budget (or_false_left _ (not (eqb s.until 0)) b) in
        let y = not_zero s.until (or_false_right (not (eqb s.budget 0)) _ b) in
        let z = not_zero s.remaining (or_false_right (not (eqb s.budget 0) || not (eqb s.until 0)) _ a) in
        inl (λ i. record { period = p i; budget = x i; until = y i; remaining = z i })
    go false q =
        let a = rw q at e in
        let n : s.period ≡ 0 → ⊥ = eqb-false s.period 0 q in
        let b = or_false_left _ (ltb (s.budget + charge) s.remaining) a in
        let c = or_false_left _ (leb s.period s.until) b in
        let d = or_false_left _ (ltb s.period (s.budget + charge)) c in
        let m : s.budget ≡ 0 → ⊥ = eqb-false s.budget 0 (or_false_right (ltb 10000 s.period) _ d) in
        let p = ltb-false 10000 s.period (or_false_left _ (eqb s.budget 0) d) in
        let q = ltb-false s.period (s.budget + charge) (or_false_right (ltb 10000 s.period || eqb s.budget 0) _ c) in
        let u = leb-false s.period s.until (or_false_right (ltb 10000 s.period || eqb s.budget 0 || ltb s.period (s.budget + charge)) _ b) in
        let r = ltb-false (s.budget + charge) s.remaining (or_false_right (ltb 10000 s.period || eqb s.budget 0 || ltb s.period (s.budget + charge) || leb s.period s.until) _ a) in
        inr (record { period_in = (omega arith, p); budget_in = (omega arith, q); until_in = u; remaining_in = r })

module _ (charge : ℕ) (slots : List Slot) where
  wrong_says : (i : ℕ) → Holds (slot_test (cannot_be charge) slots) i → CanBe charge (slot_at slots i) → ⊥
  unfolding slot_test
  wrong_says i h c = true≢false (sym h ∙ allowed charge (slot_at slots i) c)

  -- the outcome of a tick is right
  abbrev pub Decided : Outcome → Type 0
  Decided outcome = Decides (ValidRecord charge slots) (record_conditions charge slots) outcome

  -- its charge, then its slots
  record_decides : Decided (refuse_if (ltb 9 charge) (WrongSlot 0) then refuse_at (first_wrong charge slots) WrongSlot)
  unfolding first_slot slot_test
  record_decides = decides (record {
    reports =
        test_only (WrongSlot 0) refl (less_exactly 9 charge)
        and test_at WrongSlot (λ k. (refl, refl)) (λ i. (wrong_says i, λ n. not-eq-not.0 (λ e. n (can_be charge _ e))));
    valid = (
      λ n. record {
        charge_most = not_less 9 charge n.0;
        slots_can_be = λ i h. can_be charge (slot_at slots i) (not-eq-not.0 (λ e. n.1.0 i h (wrong_says i e)));
      },
      λ v. (λ h. omega (arith, v.charge_most), (λ i h n. n (v.slots_can_be i h), tt)),
    );
  })

  -- what the promise says at each end of the program
  pub record_overcharged : 9 < charge → Decided (Err (WrongSlot 0))
  unfolding refuse_if ◌then◌
  record_overcharged h = rw (lt-ltb 9 charge h) at record_decides

  module _ (h : charge ≤ 9) {wrong : ℕ} (e : wrong ≡ first_wrong charge slots) where
    slots_decide : Decided (refuse_at wrong WrongSlot)
    unfolding refuse_if ◌then◌
    slots_decide = rw (le-ltb 9 charge h, ← e) at record_decides

    pub record_refused : (wrong ≡ 0 → ⊥) → Decided (Err (WrongSlot wrong))
    record_refused n = rw (refuse_found wrong WrongSlot n) at slots_decide

    pub record_accepted : wrong ≡ 0 → Decided (Ok tt)
    record_accepted z = rw (refuse_at_zero wrong WrongSlot z) at slots_decide

    -- and what an accepted record is
    pub record_valid : wrong ≡ 0 → ValidRecord charge slots
    unfolding first_slot slot_test
    record_valid z = record {
      charge_most = h;
      slots_can_be = λ i b. can_be charge (slot_at slots i) (first_zero (slot_test (cannot_be charge) slots) 16 (sym e ∙ z) i b);
    }
