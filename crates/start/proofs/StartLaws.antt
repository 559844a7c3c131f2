-- A fresh core: its tests decide, and an accepted core has the tick guarantee.
use Rattle.std.specs.Prelude.{Ok, Err}
use Prim.Native.Nat.{ℕ, ◌≤◌, ◌<◌}
use native.Mathlib.Decide.{dec_lt}
use native.Mathlib.Omega.{arith}
use mathlib.Core.Path.{◌≡◌, refl, sym, ◌∙◌, ap}
use mathlib.Core.Logic.{◌≢◌, by_cases}
use mathlib.Core.List.{List, ◌++◌}
use borrow.Author.Tests.{eq-eqb, ne_eqb}
use Rattle.numbers.specs.Rows.{entry}
use Rattle.numbers.proofs.RowLaws.{get_or-row, get_or-row_above}
use Rattle.refusal.specs.Conditions.{Decides}
use Rattle.refusal.specs.declared.Cause.{Cause}
use Rattle.refusal.specs.Outcome.{Outcome}
use Rattle.refusal.proofs.TestLaws.{accepted≢refused, then_first, then_refused, by_accepted, by_refused, by_both, by_says}
use Rattle.refusal.proofs.ConditionLaws.{join_after, decides}
use Rattle.taskset.specs.declared.TaskSet.{TaskSet}
use Rattle.taskset.specs.declared.Reading.{Reading}
use Rattle.fields.specs.Hyperperiod.{hyperperiod_of}
use Rattle.taskset.specs.Demands.{demand_of, load_on}
use Rattle.fields.specs.Limits.{Within}
use Rattle.fields.proofs.HyperperiodLaws.{hyperperiod_is}
use Rattle.taskset.proofs.DemandLaws.{demand_exact}
use Rattle.taskset.specs.Table.{Table, reading_of, Decided, Sound}
use Rattle.taskset.proofs.TableLaws.{table_accepts, read_outcome, read_fields}
use Rattle.oldform.specs.Form.{alone_fields}
use Rattle.oldform.specs.Limits.{alone}
use Rattle.oldform.proofs.FormLaws.{every_affinity_fact}
use Rattle.oldform.proofs.OldLaws.{alone-tested, alone_sound, alone_sized}
use Rattle.edf.specs.declared.Slot.{Slot}
use Rattle.edf.specs.Slots.{empty_slot, slot_at}
use Rattle.edf.specs.Fresh.{fresh_slot, fresh_slots}
use Rattle.edf.specs.Guarantee.{WithinLimits, LoadFits}
use Rattle.edf.proofs.GuaranteeLaws.{tick_guarantee}
use Rattle.placing.specs.Tests.{placing_outcome}
use Rattle.placing.specs.Limits.{Placed, placing_alone, placed}
use Rattle.placing.proofs.PlacingLaws.{placed_sound, placing-tested_alone}
use Rattle.start.specs.declared.Started.{Started}
use Rattle.start.specs.Starts.{placed_tasks, refused_start, start_for, start_by, start_of}
use Rattle.start.specs.Promise.{Serves, Starts}

-- the answer's outcome is that of the tests
module _ {t : Table} (sound : Sound t) (placement : List ℕ) (core : ℕ) where
  by_outcome_lem : (o : Outcome) → (start_by placement core o t.fields).outcome ≡ o
  unfolding start_by start_for refused_start
  by_outcome_lem o = by_says refused_start (start_for placement core) (λ r. r.outcome) (λ c. refl) (λ f. refl) o t.fields

  pub start_decided : {r : Started} → r ≡ start_of t placement core → Decided (placed t placement core) r.outcome
  unfolding start_of
  start_decided e = rw (e, by_outcome_lem) (decides (placed_sound sound placement core).tested)

  -- the limits that the tick guarantee rests on
  module _ (w : Within t.fields) where
    within_limits : WithinLimits (hyperperiod_of t.fields) (demand_of t.fields) (placed_tasks t.fields placement)
    within_limits = record {
      tasks_most = w.sizes.tasks.1;
      charge_most = w.charge;
      hyperperiod_least = (hyperperiod_is w).positive;
      period_least = λ k h. (w.periods k h).0;
      period_most = λ k h. (w.periods k h).1;
      budget_least = λ k h. (w.budgets k h).0;
      budget_most = λ k h. w.costs k h;
      demand_exact = λ k h. demand_exact w h;
    }

    load_fits : Placed t.fields placement core → LoadFits (hyperperiod_of t.fields) (demand_of t.fields) (placed_tasks t.fields placement) core
    unfolding load_on
    load_fits p = p.fits

  -- the slots of an accepted core
  module _ (few : t.fields.n ≤ 16) {slots : List Slot} (e : slots ≡ fresh_slots (placed_tasks t.fields placement) core) where
    abbrev slot_of : ℕ → Slot
    slot_of = fresh_slot (placed_tasks t.fields placement) core

    own_slot : (k : ℕ) → k < t.fields.n → slot_at slots k ≡ slot_of k
    unfolding fresh_slots
    own_slot k h = rw e (get_or-row empty_slot t.fields.n slot_of k h few)

    other-slot : (k : ℕ) → k < 16 → (k < t.fields.n → entry placement k ≢ core) → slot_at slots k ≡ empty_slot
    unfolding fresh_slot fresh_slots
    other-slot k b n =
        by_cases (dec_lt k t.fields.n)
        (λ h. own_slot k h ∙ rw (ne_eqb (entry placement k) core (n h)))
        (λ h. rw e (get_or-row_above empty_slot t.fields.n slot_of k (omega arith) b))

    on-slot : (k : ℕ) → k < t.fields.n → entry placement k ≡ core
        → slot_at slots k ≡ record { period = entry t.fields.periods k; budget = entry t.fields.budgets k; until = 0; remaining = 0 }
    unfolding fresh_slot
    on-slot k h q = own_slot k h ∙ rw (eq-eqb (entry placement k) core q)

  -- an accepted core serves
  serves : (placed t placement core).Valid → Serves t placement core (record { slots = fresh_slots (placed_tasks t.fields placement) core; charge = t.fields.charge })
  serves v =
      let w : Within t.fields = sound.within v.0 in
      record {
        carries = refl;
        own = on-slot w.sizes.tasks.1 refl;
        others = other-slot w.sizes.tasks.1 refl;
        ticks = tick_guarantee (hyperperiod_of t.fields) (demand_of t.fields) (placed_tasks t.fields placement) core
            (within_limits w) (load_fits w v.1) (λ k h _. (w.periods k h).0) t.fields.charge refl _ refl;
      }

  pub start_promised : {r : Started} → r ≡ start_of t placement core → Starts t placement core r
  unfolding start_of start_by start_for refused_start
  start_promised e =
      rw e (by_both refused_start (start_for placement core) (Starts t placement core) (placed t placement core).outcome t.fields
      (λ c q. record { accepted = λ a. absurd (accepted≢refused a refl); refused = λ n. refl })
      (λ q. record { accepted = λ a. serves ((table_accepts (placed_sound sound placement core)).0 q); refused = λ n. absurd (n refl) }))

  -- all that is said of the answer
  pub start_all : {r : Started} → r ≡ start_of t placement core → (r ≡ start_of t placement core) × (Decided (placed t placement core) r.outcome × Starts t placement core r)
  start_all e = (e, (start_decided e, start_promised e))

-- The steps of the program.
module _ (t : Table) (placement : List ℕ) (core : ℕ) {reading : Reading} (e : reading ≡ reading_of t) where
  pub start_refused : {c : Cause} {r : Started} → reading.outcome ≡ Err c → r ≡ refused_start c → r ≡ start_of t placement core
  unfolding start_of start_by
  start_refused q h = h ∙ sym (by_refused refused_start (start_for placement core) t.fields (then_refused _ _ _ (sym (read_outcome t e) ∙ q)))

  pub start_checked : {r : Started} → reading.outcome ≡ Ok tt → r ≡ start_by placement core (placing_outcome reading.tasks.fields placement core) reading.tasks.fields
      → r ≡ start_of t placement core
  unfolding start_of
  start_checked a h =
      rw (then_first t.outcome (placing_outcome t.fields placement core) (sym (read_outcome t e) ∙ a)) (rw (read_fields t e a) at h)

-- With charge 0 and every core permitted the table has numbers 1 to 7, and the placing numbers 9, 10 and 11.
pub start_alone : (table placement : List ℕ) (core : ℕ)
    → Decides (placed (alone table) placement core).Valid ((alone table).conditions ++ placing_alone (alone table).fields placement core)
    (start_of (alone table) placement core).outcome
unfolding start_of alone
start_alone table placement core =
    rw (by_outcome_lem (alone_sound table) placement core _)
    (decides (join_after (alone-tested table) (λ n.
    let z = alone_sized table n in
    placing-tested_alone (alone_fields table) placement core z.cores.1 (every_affinity_fact table 0 z.tasks.1))))

-- The answer for a checked task set, by the outcome of its tests.
module _ (t : TaskSet) (placement : List ℕ) (core : ℕ) {o : Outcome} (p : o ≡ placing_outcome t.fields placement core) where
  pub start_no : {c : Cause} {r : Started} → o ≡ Err c → r ≡ refused_start c → r ≡ start_by placement core (placing_outcome t.fields placement core) t.fields
  unfolding start_by
  start_no q e = e ∙ sym (by_refused refused_start (start_for placement core) t.fields (sym p ∙ q))

  pub start_yes : {slots : List Slot} → o ≡ Ok tt → slots ≡ fresh_slots (placed_tasks t.fields placement) core
      → record { outcome = Ok tt; core = record { slots = slots; charge = t.fields.charge } } ≡ start_by placement core (placing_outcome t.fields placement core) t.fields
  unfolding start_by start_for
  start_yes q e =
      ap (λ x. record { outcome = Ok tt; core = record { slots = x; charge = t.fields.charge } }) e
      ∙ sym (by_accepted refused_start (start_for placement core) t.fields (sym p ∙ q))
