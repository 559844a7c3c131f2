-- A tick by its parts.
use Rattle.std.specs.Prelude.{Ok, Err}
use Prim.Native.Nat.{ℕ, suc, ◌+◌, ◌-◌, ◌≤◌, ◌<◌, min}
use mathlib.Core.Path.{◌≡◌, refl, sym, ap, ◌∙◌}
use mathlib.Core.Logic.{by_cases}
use mathlib.Core.Bool.{Bool, true, false, cond, ◌&&◌, ◌||◌}
use mathlib.Core.List.{List}
use native.Mathlib.Omega.{arith}
use native.Mathlib.Decide.{ℕ_discrete}
use native.Mathlib.Nat.{min-le_left}
use lib.Dec.{eqb, ltb}
use lib.ListN.{length, get_or, set, length-set}
use lib.Seq.{get_or-set_same, get_or-set_other, ext_get_or}
use borrow.Author.Tests.{eq-eqb, ne_eqb, lt-ltb, le-ltb}
use Rattle.refusal.specs.declared.Cause.TheVariants.{Slot as WrongSlot}
use Rattle.edf.specs.declared.Slot.{Slot}
use Rattle.edf.specs.Slots.{empty_slot, occupied, each, first_wrong}
use Rattle.edf.specs.Tick.{owed_for, first_late, released, release_all, chosen, ran, run, advanced, advance, advance_all, stepped, refused_tick, tick}
use Rattle.edf.proofs.SlotLaws.{each-each, length-each}
use Rattle.edf.proofs.SlotSteps.{ran-at}
use Rattle.runner.specs.declared.Core.{Core}
use Rattle.runner.specs.declared.Ticked.{Ticked}
use Rattle.runner.specs.Answers.{tick_answer}
use Rattle.slots.proofs.ReadLaws.{get_d_any}

-- Counting down and running do not touch each other.
run-advance : (task k : ℕ) (s : Slot) → run task k (advance k s) ≡ advance k (run task k s)
run-advance task k s = go (eqb k task) (occupied s) refl
  where
    go : (a b : Bool) → occupied s ≡ b → cond a (ran (advance k s)) (advance k s) ≡ advance k (cond a (ran s) s)
    go true true e = rw e
    go true false e = rw e
    go false b e = refl

pub run_last : (task : ℕ) (slots : List Slot) → each (run task) (each advance slots) ≡ advance_all task slots
unfolding advance_all
run_last task slots =
    each-each advance (run task) 1 slots ∙ (λ i. each (λ k s. run-advance task k s i) slots) ∙ sym (each-each (run task) advance 1 slots)

-- Step 2 of a whole record: idle, no slot changes; otherwise the one that runs.
pub run_none : (task : ℕ) (slots : List Slot) → task ≡ 0 → slots ≡ each (run task) slots
run_none task slots e =
    ext_get_or empty_slot slots (each (run task) slots) (sym (length-each (run task) 1 slots))
    (λ j h. rw (ran-at task slots j, ne_eqb (suc j) task (λ q. omega arith)))

pub run-one : (task : ℕ) (slots : List Slot) (d : Slot) {y : Slot} → length slots ≡ 16 → task ≤ 16 → (task ≡ 0 → ⊥) → y ≡ ran (get_or slots (task - 1) d)
    → set slots (task - 1) y ≡ each (run task) slots
run-one task slots d {y} size h n e =
    ext_get_or empty_slot (set slots (task - 1) y) (each (run task) slots) (length-set slots _ y ∙ sym (length-each (run task) 1 slots))
    (λ j l. by_cases (ℕ_discrete j (task - 1))
    (λ q. rw (ran-at task slots j, eq-eqb (suc j) task (omega (arith, n)), q)
    (get_or-set_same slots (task - 1) y empty_slot (omega (arith, n)) ∙ e ∙ ap ran (get_d_any slots (task - 1) d empty_slot (omega (arith, n)))))
    (λ q. rw (ran-at task slots j, ne_eqb (suc j) task (λ z. q (omega arith))) (get_or-set_other slots (task - 1) j y empty_slot q)))

-- The three steps as their program makes them.
pub stepped_by : (charge : ℕ) (slots : List Slot) (requests : List ℕ) (late run : ℕ) (next : List Slot) → late ≡ first_late slots
    → run ≡ chosen (release_all charge requests slots) → next ≡ advance_all run (release_all charge requests slots)
    → tick_answer (record { core = record { slots = next; charge = charge }; run = run; late = late; outcome = Ok tt }) ≡ stepped charge slots requests
unfolding tick_answer stepped
stepped_by charge slots requests late run next el ec en = rw (en, ec, el)

-- and the refusal
pub refused_by : (core : Core) (slot : ℕ) {r : Ticked} → r ≡ record { core = core; run = 0; late = 0; outcome = Err (WrongSlot slot) }
    → tick_answer r ≡ refused_tick core.charge core.slots slot
unfolding tick_answer refused_tick
refused_by core slot e = ap tick_answer e

-- A tick, by its tests.
module _ (charge : ℕ) (slots : List Slot) (requests : List ℕ) where
  pub tick_overcharged : 9 < charge → refused_tick charge slots 0 ≡ tick charge slots requests
  unfolding tick
  tick_overcharged h = rw (lt-ltb 9 charge h)

  module _ (h : charge ≤ 9) {wrong : ℕ} (e : wrong ≡ first_wrong charge slots) where
    pub tick_accepted : wrong ≡ 0 → stepped charge slots requests ≡ tick charge slots requests
    unfolding tick
    tick_accepted z = rw (le-ltb 9 charge h, ← e, eq-eqb wrong 0 z)

    pub tick_refused : (wrong ≡ 0 → ⊥) → refused_tick charge slots wrong ≡ tick charge slots requests
    unfolding tick
    tick_refused n = rw (le-ltb 9 charge h, ← e, ne_eqb wrong 0 n)
