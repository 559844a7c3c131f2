-- One tick keeps the invariant: every slot can be, and what the slots owe up to any horizon x is at most x. So nobody is refused and nobody is late.
use Prim.Native.Nat.{ℕ, zero, suc, ◌+◌, ◌≤◌}
use mathlib.Core.Path.{◌≡◌, refl}
use mathlib.Core.Logic.{inl, inr}
use mathlib.Core.Bool.{Bool, false, cond, and-false}
use mathlib.Core.List.{List, [], ◌∷◌}
use native.Mathlib.Omega.{arith}
use native.Mathlib.Nat.{le_refl, le_of_eq, eq-zero-or-pos}
use lib.Dec.{eqb}
use borrow.Author.Tests.{lt-leb, ne_eqb, le-ltb}
use Rattle.numbers.proofs.BoolLaws.{cond_both}
use Rattle.numbers.proofs.FirstLaws.{first_clear}
use Rattle.edf.specs.declared.Slot.{Slot}
use Rattle.edf.specs.Slots.{occupied, slot_at, slot_test, first_slot, each, cannot_be, CanBe}
use Rattle.edf.specs.Tick.{due, late, first_late, release, release_all, chosen, ran, run, advanced, advance, advance_all, stepped, tick}
use Rattle.edf.proofs.SlotLaws.{each_at, total_over, total-each}
use Rattle.edf.proofs.SlotSteps.{ready_at, ran-at}
use Rattle.edf.proofs.DemandLaws.{Active, jobs, demand_bound, demand_in, demand-advance, advance_can_be, due-later, release_active, release-demand}
use Rattle.edf.proofs.ChoiceLaws.{run_active, serves}

module _ (charge : ℕ) where
  -- The invariant before each tick.
  pub record Good (slots : List Slot) : Type 0 where
    pub small : charge ≤ 9
    pub fit : (i : ℕ) → CanBe charge (slot_at slots i)
    pub rated : (y : ℕ) → total_over (jobs charge y) slots ≤ y
    pub met : (x : ℕ) → total_over (demand_bound charge x) slots ≤ x

  -- No slot that can be is refused.
  pub allowed : (s : Slot) → CanBe charge s → cannot_be charge s ≡ false
  allowed s (inl e) = rw e refl
  allowed s (inr u) =
      rw (
        ne_eqb s.period 0 (λ e. omega (arith, u.period_in)),
        le-ltb 10000 s.period u.period_in.1,
        ne_eqb s.budget 0 (λ e. omega (arith, u.budget_in)),
        le-ltb s.period (s.budget + charge) u.budget_in.1,
        lt-leb s.period s.until u.until_in,
        le-ltb (s.budget + charge) s.remaining u.remaining_in,
      ) refl

  pub tick-stepped : (slots : List Slot) (requests : List ℕ) → Good slots → tick charge slots requests ≡ stepped charge slots requests
  unfolding tick first_slot slot_test
  tick-stepped slots requests g =
      rw (
        le-ltb 9 charge g.small,
        first_clear (slot_test (cannot_be charge) slots) 16 (λ i _. allowed (slot_at slots i) (g.fit i)),
      ) refl

  -- Nobody is late: at a release nothing is owed.
  pub prompt : (slots : List Slot) (i : ℕ) → total_over (demand_bound charge 0) slots ≤ 0 → (slot_at slots i).until ≡ 0 → (slot_at slots i).remaining ≡ 0
  prompt [] i h e = refl
  prompt (s ∷ slots) zero h e = omega (arith, demand_in charge 0 s (omega (arith, e)))
  prompt (s ∷ slots) (suc i) h e = prompt slots i (omega arith) e

  pub none-late : (slots : List Slot) → total_over (demand_bound charge 0) slots ≤ 0 → first_late slots ≡ 0
  unfolding first_slot slot_test
  none-late slots h = first_clear (slot_test late slots) 16 (λ i _. elim (eq-zero-or-pos (slot_at slots i).until) [
    | inl e ↦ rw (le-ltb 0 (slot_at slots i).remaining (omega (arith, prompt slots i h e)), and-false)
    | inr p ↦ rw (due-later (slot_at slots i) p) refl
  ])

  -- No step adds to the jobs of a slot.
  keeps_jobs : (y : ℕ) (b : Bool) (t s : Slot) → jobs charge y t ≡ jobs charge y s
      → jobs charge y (cond b t s) ≤ jobs charge y s
  keeps_jobs y b t s e = cond_both (λ r. jobs charge y r ≤ jobs charge y s) b t s (le_of_eq e) (le_refl (jobs charge y s))

  -- The three steps.
  pub stepped_good : (slots : List Slot) (requests : List ℕ) → Good slots → Good (stepped charge slots requests).slots
  unfolding stepped advance_all release_all release
  stepped_good slots requests g =
      let ready : List Slot = release_all charge requests slots in
      let j : ℕ = chosen ready in
      let after : List Slot = each (run j) ready in
      let a : (i : ℕ) → Active charge (slot_at ready i) = λ i.
      rw (ready_at charge requests slots i) (release_active charge requests (suc i) (slot_at slots i) (g.fit i)) in
      let b : (i : ℕ) → Active charge (slot_at after i) = λ i.
      rw (ran-at j ready i) (run_active charge j (suc i) (slot_at ready i) (a i)) in
      let rated : (y : ℕ) → total_over (jobs charge y) ready ≤ y = λ y.
      total-each (jobs charge y) (jobs charge y) (release charge requests) 1 slots
      (λ k i. keeps_jobs y (due (slot_at slots i)) _ (slot_at slots i) refl) y (g.rated y) in
      let met : (x : ℕ) → total_over (demand_bound charge x) ready ≤ x = λ x.
      total-each (demand_bound charge x) (demand_bound charge x) (release charge requests) 1 slots
      (λ k i. release-demand charge requests k (slot_at slots i) x (g.fit i)) x (g.met x) in
      record {
        small = g.small;
        fit = λ i. rw (each_at advance (λ k. refl) after i) (advance_can_be charge (suc i) (slot_at after i) (b i));
        rated = λ y.
            total-each (jobs charge y) (jobs charge y) advance 1 after
            (λ k i. keeps_jobs y (occupied (slot_at after i)) (advanced (slot_at after i)) (slot_at after i) refl) y
            (total-each (jobs charge y) (jobs charge y) (run j) 1 ready
            (λ k i. keeps_jobs y (eqb k j) (ran (slot_at ready i)) (slot_at ready i) refl) y (rated y));
        met = λ y.
            total-each (demand_bound charge y) (demand_bound charge (suc y)) advance 1 after
            (λ k i. le_of_eq (demand-advance charge y k (slot_at after i) (b i))) y
            (serves charge ready y a (rated y) (met (suc y)));
      }
