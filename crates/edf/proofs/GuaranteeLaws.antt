-- The tick guarantee, for any charge and any first releases within a period, and a core whose exact load is at most the hyperperiod.
use Prim.Native.Nat.{ℕ, zero, suc, ◌+◌, ◌*◌, ◌-◌, ◌/◌, ◌≤◌, ◌<◌, zero-le}
use mathlib.Core.Path.{◌≡◌, refl, sym, ap, ◌∙◌}
use mathlib.Core.Logic.{inl, inr}
use mathlib.Core.Bool.{cond}
use mathlib.Core.List.{List, [], ◌∷◌, map}
use native.Mathlib.Omega.{arith}
use native.Mathlib.Nat.{le_refl, le_trans, div-zero, zero-mul, mul-zero, add-zero, div-mul-le_self, mul-le-mul_left, mul-le-mul_right, le_of_mul-le-mul_left}
use native.Mathlib.Decide.{ℕ_discrete}
use lib.Dec.{eqb}
use lib.ListN.{length, replicate}
use borrow.Author.Tests.{eq-eqb, ne_eqb}
use Rattle.numbers.specs.Rows.{tab, up_to, row}
use Rattle.numbers.specs.Sums.{sum_to}
use Rattle.numbers.proofs.RowLaws.{up_to-below, up_to_above, get_or-row, row-each}
use Rattle.edf.specs.declared.Slot.{Slot}
use Rattle.edf.specs.Slots.{empty_slot, slot_at, CanBe}
use Rattle.edf.specs.Tick.{TickAnswer, owed_for, stepped, ticked}
use Rattle.edf.specs.Fresh.{Tasks, period, budget, core_of, first_release, fresh_slot, fresh_slots}
use Rattle.edf.specs.Book.{new_entry, entries_from, book, names}
use Rattle.edf.specs.Guarantee.{runs, period_start, received_in, owed_in, TickGuarantee, WithinLimits, LoadFits, ReleasedSoon}
use Rattle.edf.proofs.SlotLaws.{total_over, total-row}
use Rattle.edf.proofs.DemandLaws.{jobs, demand_bound, demand_empty, demand_idle}
use Rattle.edf.proofs.StepLaws.{Good, tick-stepped, stepped_good, none-late}
use Rattle.edf.proofs.CountLaws.{Receives, periods}
use Rattle.edf.proofs.FollowLaws.{Beside, done, skip, both, Agree, Paired, follows}
use Rattle.edf.proofs.NamingLaws.{book-names_earliest}

-- the slot of a task on the core
abbrev new_slot : Tasks → ℕ → Slot
new_slot tasks k = record { period = period tasks k; budget = budget tasks k; until = first_release tasks k; remaining = 0 }

-- A task's jobs in y ticks, scaled by the hyperperiod: at most y times its demand.
scaled : (H T C d y : ℕ) → d * T ≡ C * H → H * (y / T * C) ≤ y * d
scaled H T C d y e = omega (arith, ap (λ z. y / T * z) e, mul-le-mul_right d (div-mul-le_self y T))

sums_scaled : (H y : ℕ) (f g : ℕ → ℕ) (n : ℕ) → ((k : ℕ) → k < n → H * f k ≤ y * g k) → H * sum_to f n ≤ y * sum_to g n
unfolding sum_to
sums_scaled H y f g zero h = omega arith
sums_scaled H y f g (suc n) h = omega (arith, h n (omega arith), sums_scaled H y f g n (λ k b. h k (omega arith)))

-- the slots of the start record; past the tasks they are empty
abbrev start_slot : Tasks → ℕ → ℕ → Slot
start_slot tasks core = up_to empty_slot tasks.n (fresh_slot tasks core)

-- What is 0 in the answer to every tick on a good record is 0 in the answers to a list of ticks.
all_zero : (f : TickAnswer → ℕ) (charge : ℕ)
    → ((slots : List Slot) (requests : List ℕ) → Good charge slots → f (stepped charge slots requests) ≡ 0)
    → (ticks : List (List ℕ)) (slots : List Slot) → Good charge slots
    → map f (ticked charge slots ticks) ≡ replicate (length ticks) 0
unfolding stepped
all_zero f charge h [] slots g = refl
all_zero f charge h (requests ∷ rest) slots g =
    let after : List Slot = (stepped charge slots requests).slots in
    rw (tick-stepped charge slots requests g, h slots requests g)
    (ap (λ (l : List ℕ). 0 ∷ l) (all_zero f charge h rest after (stepped_good charge slots requests g)))

module _ (H : ℕ) (demands : ℕ → ℕ) (tasks : Tasks) (core : ℕ) (v : WithinLimits H demands tasks) (fits : LoadFits H demands tasks core) (soon : ReleasedSoon tasks core) where
  fresh_can_be : (i : ℕ) → CanBe tasks.charge (slot_at (fresh_slots tasks core) i)
  unfolding fresh_slots fresh_slot
  fresh_can_be =
      row-each empty_slot (CanBe tasks.charge) tasks.n (fresh_slot tasks core) (inl refl)
      (λ k b. elim (ℕ_discrete (core_of tasks k) core) [
        | yes q ↦ rw (eq-eqb (core_of tasks k) core q) (inr (record {
          period_in = (v.period_least k b, v.period_most k b);
          budget_in = (v.budget_least k b, v.budget_most k b);
          until_in = soon k b q;
          remaining_in = zero-le;
        }))
        | no q ↦ rw (ne_eqb (core_of tasks k) core q) (inl refl)
      ])

  -- What is at most the jobs of each task in y ticks comes to at most y.
  fresh_most : (y : ℕ) (g : Slot → ℕ) → g empty_slot ≡ 0
      → ((k : ℕ) → g (new_slot tasks k) ≤ jobs tasks.charge y (new_slot tasks k)) → total_over g (fresh_slots tasks core) ≤ y
  unfolding fresh_slots fresh_slot
  fresh_most y g none most =
      le_of_mul-le-mul_left {k = H}
      (rw (total-row g tasks.n (fresh_slot tasks core) none v.tasks_most)
      (le_trans (sums_scaled H y _ _ tasks.n share) (omega (arith, mul-le-mul_left y fits))))
      v.hyperperiod_least
    where
      share : (k : ℕ) → k < tasks.n → H * g (fresh_slot tasks core k) ≤ y * cond (eqb (core_of tasks k) core) (demands k) 0
      share k b = elim (ℕ_discrete (core_of tasks k) core) [
        | yes q ↦
            rw (eq-eqb (core_of tasks k) core q)
            (le_trans (mul-le-mul_left H (most k)) (scaled H (period tasks k) _ (demands k) y (v.demand_exact k b)))
        | no q ↦ rw (ne_eqb (core_of tasks k) core q, none, mul-zero H) zero-le
      ]

  fresh_good : Good tasks.charge (fresh_slots tasks core)
  fresh_good = record {
    small = v.charge_most;
    fit = fresh_can_be;
    rated = λ y. fresh_most y (jobs tasks.charge y) (rw (div-zero y) (zero-mul _)) (λ k. le_refl _);
    met = λ x.
        fresh_most x (demand_bound tasks.charge x) (demand_empty tasks.charge x)
        (λ k. demand_idle tasks.charge x x (new_slot tasks k) refl (omega arith));
  }

  -- The start record beside the book before tick 0.
  rows-beside : (r w k : ℕ) (f : ℕ → Slot) → tasks.n ≤ k + w → r ≡ tasks.n - k
      → ((i : ℕ) → f i ≡ start_slot tasks core (k + i)) → Beside (Paired 0 0) (suc k) (tab w f) (entries_from tasks core k r)
  unfolding tab fresh_slot
  rows-beside zero zero k f l e h = done
  rows-beside (suc r) zero k f l e h = absurd (omega arith)
  rows-beside zero (suc w) k f l e h =
      skip {s = f 0} (h 0 ∙ up_to_above empty_slot tasks.n (fresh_slot tasks core) (k + 0) (omega arith))
      (rows-beside zero w (suc k) (λ i. f (suc i)) (omega arith) (omega arith)
      (λ i. h (suc i) ∙ ap (start_slot tasks core) (omega arith)))
  rows-beside (suc r) (suc w) k f l e h =
      go (ℕ_discrete (core_of tasks k) core)
      (rows-beside r w (suc k) (λ i. f (suc i)) (omega arith) (omega arith)
      (λ i. h (suc i) ∙ ap (start_slot tasks core) (omega arith)))
    where
      below : k < tasks.n
      below = omega arith

      here : f 0 ≡ fresh_slot tasks core k
      here = h 0 ∙ ap (start_slot tasks core) (add-zero k) ∙ up_to-below empty_slot tasks.n (fresh_slot tasks core) k below

      go : Dec (core_of tasks k ≡ core)
          → Beside (Paired 0 0) (suc (suc k)) (tab w (λ i. f (suc i))) (entries_from tasks core (suc k) r)
          → Beside (Paired 0 0) (suc k) (f 0 ∷ tab w (λ i. f (suc i))) (entries_from tasks core k (suc r))
      go (yes q) rest =
          let a : Agree 0 (suc k) (new_slot tasks k) (new_entry tasks k) = record {
            number = refl;
            period = refl;
            budget = refl;
            jobs = 0;
            phase = omega arith;
            books = refl;
            begun = λ b. b;
          } in
          rw (here, eq-eqb (core_of tasks k) core q) (both (a, omega (arith, soon k below q)) rest)
      go (no q) rest =
          rw (ne_eqb (core_of tasks k) core q) (skip {s = f 0} (here ∙ rw (ne_eqb (core_of tasks k) core q) refl) rest)

  fresh_beside : Beside (Paired 0 0) 1 (fresh_slots tasks core) (book tasks core)
  unfolding fresh_slots book row
  fresh_beside =
      rows-beside tasks.n 16 0 (start_slot tasks core) (omega (arith, v.tasks_most)) (omega arith)
      (λ i. ap (start_slot tasks core) (omega arith))

  fresh_at : (k : ℕ) → k < tasks.n → core_of tasks k ≡ core → slot_at (fresh_slots tasks core) k ≡ new_slot tasks k
  unfolding fresh_slots fresh_slot
  fresh_at k b c = get_or-row empty_slot tasks.n (fresh_slot tasks core) k b v.tasks_most ∙ rw (eq-eqb (core_of tasks k) core c) refl

  -- What the task receives in a period, by the request that the period's first tick reads.
  received : (ticks : List (List ℕ)) (k p : ℕ) → k < tasks.n → core_of tasks k ≡ core → period_start tasks k p < length ticks
      → Receives (period_start tasks k p + period tasks k ≤ length ticks)
      (received_in tasks (ticked tasks.charge (fresh_slots tasks core) ticks) k p) (owed_in tasks ticks k p)
  unfolding owed_for
  received ticks k p b c l =
      let at = fresh_at k b c in
      let T : suc (period tasks k - 1) ≡ period tasks k = omega (arith, v.period_least k b) in
      let index : suc k - 1 ≡ k = omega arith in
      rw (T, index) at
      (periods tasks.charge k (period tasks k - 1) (budget tasks k) ticks (fresh_slots tasks core) (period_start tasks k p)
      (first_release tasks k) p fresh_good (ap (λ (s : Slot). s.period) at ∙ sym T) (ap (λ (s : Slot). s.budget) at)
      (ap (λ (s : Slot). s.until) at) (rw T refl) l)

-- Demand 3: for the fresh record of a core whose load is at most the hyperperiod, with the charge of its tasks, and every list of ticks.
pub tick_guarantee : (H : ℕ) (demands : ℕ → ℕ) (tasks : Tasks) (core : ℕ) → WithinLimits H demands tasks → LoadFits H demands tasks core → ReleasedSoon tasks core
    → (charge : ℕ) → charge ≡ tasks.charge → (slots : List Slot) → slots ≡ fresh_slots tasks core
    → (ticks : List (List ℕ)) → TickGuarantee tasks core charge slots ticks
unfolding stepped
tick_guarantee H demands tasks core v fits soon charge c slots e ticks =
    let fresh : List Slot = fresh_slots tasks core in
    let good : Good tasks.charge fresh = fresh_good H demands tasks core v fits soon in
    let same : runs (ticked tasks.charge fresh ticks) ≡ names tasks core ticks =
    follows tasks.charge ticks 0 fresh (book tasks core) good (fresh_beside H demands tasks core v fits soon) in
    let served = received H demands tasks core v fits soon ticks in
    rw (c, e) (record {
      none_refused = all_zero (λ a. a.refusal) tasks.charge (λ _ _ _. refl) ticks fresh good;
      none-late = all_zero (λ a. a.late) tasks.charge (λ s _ g. none-late tasks.charge s (g.met 0)) ticks fresh good;
      earliest-first = same;
      each-earliest = rw same (book-names_earliest tasks core ticks);
      complete = λ k p b c h. (served k p b c (omega (arith, v.period_least k b))).exact (omega arith);
      unfinished = λ k p b c h. (served k p b c h).most;
    })
