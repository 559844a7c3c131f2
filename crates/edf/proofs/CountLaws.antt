-- How many ticks a task receives: what remains of its job up to the next release, and what it is owed in each period after that.
use Prim.Native.Nat.{ℕ, zero, suc, ◌+◌, ◌*◌, ◌-◌, ◌≤◌, ◌<◌, zero-le}
use mathlib.Core.Path.{◌≡◌, refl, sym, ◌∙◌}
use mathlib.Core.Bool.{cond}
use mathlib.Core.List.{List, [], ◌∷◌}
use native.Mathlib.Omega.{arith}
use native.Mathlib.Decide.{ℕ_discrete}
use lib.Dec.{eqb}
use lib.ListN.{length, get_or, take, drop}
use borrow.Author.Tests.{eq-eqb, ne_eqb}
use Rattle.edf.specs.declared.Slot.{Slot}
use Rattle.edf.specs.Slots.{slot_at}
use Rattle.edf.specs.Tick.{request, owed_for, release, release_all, chosen, ran, run, advance, stepped, ticked}
use Rattle.edf.specs.Guarantee.{runs, count}
use Rattle.edf.proofs.SlotSteps.{ready_at, advanced-at}
use Rattle.edf.proofs.DemandLaws.{advance-occupied, release-later, release_now}
use Rattle.edf.proofs.ChoiceLaws.{chosen_owes}
use Rattle.edf.proofs.StepLaws.{Good, prompt, tick-stepped, stepped_good}

-- What a stretch of ticks gave a task: never more than it is owed, and exactly that once the stretch is complete.
pub record Receives (complete : Type 0) (got owed : ℕ) : Type 0 where
  pub most : got ≤ owed
  pub exact : complete → got ≡ owed

-- Slot number m after the releases of a tick, and after task j has run and the slot has advanced.
pub record Moved (m j : ℕ) (s next : Slot) : Type 0 where
  pub period : next.period ≡ s.period
  pub budget : next.budget ≡ s.budget
  pub until : next.until ≡ s.until - 1
  pub spent : cond (eqb m j) 1 0 + next.remaining ≡ s.remaining

moved : (m j : ℕ) (s : Slot) → 0 < s.period → (m ≡ j → 0 < s.remaining) → Moved m j s (advance m (run j m s))
moved m j s h f = elim (ℕ_discrete m j) [
  | yes e ↦
      rw (eq-eqb m j e, advance-occupied m (ran s) h)
      (record { period = refl; budget = refl; until = refl; spent = rw (eq-eqb m j e) (omega (arith, f e)) })
  | no e ↦
      rw (ne_eqb m j e, advance-occupied m s h)
      (record { period = refl; budget = refl; until = refl; spent = rw (ne_eqb m j e) (omega arith) })
]

module _ (charge i : ℕ) where
  -- slot i over a tick; r is what the tick's release makes of it
  track : (slots : List Slot) (requests : List ℕ) {r : Slot} → release charge requests (suc i) (slot_at slots i) ≡ r
      → 0 < r.period
      → Moved (suc i) (stepped charge slots requests).run r (slot_at (stepped charge slots requests).slots i)
  unfolding stepped
  track slots requests {r} e h =
      let ready : List Slot = release_all charge requests slots in
      let at : slot_at ready i ≡ r = ready_at charge requests slots i ∙ e in
      rw (advanced-at (chosen ready) ready i, at)
      (moved (suc i) (chosen ready) r h (λ q. rw at at (chosen_owes ready i (omega arith))))

  -- Up to its next release a slot receives what remains of its job.
  job : (ticks : List (List ℕ)) (slots : List Slot) (u : ℕ) → Good charge slots → 0 < (slot_at slots i).period → (slot_at slots i).until ≡ u
      → Receives (u ≤ length ticks) (count (suc i) (take u (runs (ticked charge slots ticks)))) (slot_at slots i).remaining
  unfolding stepped
  job ticks slots zero g h e = record { most = zero-le; exact = λ _. sym (prompt charge slots i (g.met 0) e) }
  job [] slots (suc u) g h e = record { most = zero-le; exact = λ w. absurd (omega arith) }
  job (requests ∷ rest) slots (suc u) g h e =
      let m = track slots requests (release-later charge requests (suc i) (slot_at slots i) (omega arith)) h in
      let r = job rest (stepped charge slots requests).slots u (stepped_good charge slots requests g)
      (omega arith) (m.until ∙ omega arith) in
      rw (tick-stepped charge slots requests g)
      (record { most = omega arith; exact = λ w. omega (arith, r.exact (omega arith)) })

  -- In each period to come it receives what it is owed for it. The period begins at tick `start`, k periods after the next release.
  pub periods : (p b : ℕ) (ticks : List (List ℕ)) (slots : List Slot) (start u k : ℕ) → Good charge slots
      → (slot_at slots i).period ≡ suc p → (slot_at slots i).budget ≡ b → (slot_at slots i).until ≡ u → start ≡ u + k * suc p → start < length ticks
      → Receives (start + suc p ≤ length ticks) (count (suc i) (take (suc p) (drop start (runs (ticked charge slots ticks)))))
      (owed_for charge b (request (get_or ticks start []) (suc i)))
  unfolding stepped
  periods p b [] slots start u k g hp hb e at l = absurd (omega arith)
  periods p b (requests ∷ rest) slots zero u k g hp hb e at l =
      let z : (slot_at slots i).until ≡ 0 = omega arith in
      let m = track slots requests (release_now charge requests (suc i) (slot_at slots i) (omega arith) z) (omega arith) in
      let r = job rest (stepped charge slots requests).slots p (stepped_good charge slots requests g)
      (omega arith) (m.until ∙ omega arith) in
      rw (tick-stepped charge slots requests g, ← hb)
      (record { most = omega arith; exact = λ w. omega (arith, r.exact (omega arith)) })
  periods p b (requests ∷ rest) slots (suc start) zero zero g hp hb e at l = absurd (omega arith)
  periods p b (requests ∷ rest) slots (suc start) zero (suc k) g hp hb e at l =
      let m = track slots requests (release_now charge requests (suc i) (slot_at slots i) (omega arith) e) (omega arith) in
      let r = periods p b rest (stepped charge slots requests).slots start p k (stepped_good charge slots requests g)
      (m.period ∙ hp) (m.budget ∙ hb) (m.until ∙ omega arith) (omega arith) (omega arith) in
      rw (tick-stepped charge slots requests g) (record { most = r.most; exact = λ w. r.exact (omega arith) })
  periods p b (requests ∷ rest) slots (suc start) (suc u) k g hp hb e at l =
      let m = track slots requests (release-later charge requests (suc i) (slot_at slots i) (omega arith)) (omega arith) in
      let r = periods p b rest (stepped charge slots requests).slots start u k (stepped_good charge slots requests g)
      (m.period ∙ hp) (m.budget ∙ hb) (m.until ∙ omega arith) (omega arith) (omega arith) in
      rw (tick-stepped charge slots requests g) (record { most = r.most; exact = λ w. r.exact (omega arith) })
