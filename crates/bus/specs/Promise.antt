-- What is promised of the answers for bus drives, beside the general reader's and the exact planner's.
use Rattle.std.specs.Prelude.{ℕ, ◌≡◌, List, [], ◌∷◌, ◌⊎◌, ◌≢◌, ◌↔◌}
use Rattle.std.specs.Int.{◌∣◌}
use Rattle.numbers.specs.First.{FirstAt}
use Rattle.refusal.specs.Causes.{number_in}
use Rattle.refusal.specs.Conditions.{None, Gives}
use Rattle.refusal.specs.Outcome.{Outcome}
use Rattle.fields.specs.Fields.{period_at}
use Rattle.taskset.specs.Table.{reading_of}
use Rattle.taskset.specs.declared.Reading.{Reading}
use Rattle.newform.specs.Form.{new_fields}
use Rattle.newform.specs.Limits.{new}
use Rattle.encoding.specs.Beside.{beside_of}
use Rattle.profile.specs.Periods.{Listed}
use Rattle.planner.specs.Plan.{plan_of, verdict_outcome}
use Rattle.planner.specs.declared.Allocation.{Allocation}
use Rattle.bus.specs.Limits.{earlier, bus}

-- The number is one of these.
abbrev pub OneOf : List ℕ → ℕ → Type 0
OneOf [] number = ⊥
OneOf (n ∷ ns) number = (number ≡ n) ⊎ OneOf ns number

-- None of numbers 1, 17, 2, 3, 4, 13 and 5 holds, and this task, from 1, is the first whose period is not so.
abbrev pub FirstOther : (ℕ → Type 0) → List ℕ → ℕ → Type 0
FirstOther Good s task = None (earlier s) × FirstAt (λ k. Good (period_at (new_fields s) k) → ⊥) (new_fields s).n task

-- What is promised of the outcome of a call on a table's bytes.
pub record Profile (s : List ℕ) (outcome : Outcome) : Type 0 where
  -- It is number 22 exactly if none of 1, 17, 2, 3, 4, 13, 5 holds and a period is not in the list: the place is the first such task,
  pub unlisted : (task : ℕ) → Gives outcome 22 task ↔ FirstOther Listed s task
  -- which is the first whose period does not divide 10,000.
  pub undivided : (task : ℕ) → Gives outcome 22 task ↔ FirstOther (λ period. period ∣ 10000) s task
  -- None of those numbers holds exactly if the general reader's is none of them.
  pub before : None (earlier s) ↔ (OneOf (1 ∷ 17 ∷ 2 ∷ 3 ∷ 4 ∷ 13 ∷ 5 ∷ []) (number_in (new s).outcome) → ⊥)
  -- Unless it is 22, number and place are the general reader's,
  pub agrees : number_in outcome ≢ 22 → outcome ≡ (new s).outcome
  -- and number 7 never occurs.
  pub never : number_in outcome ≢ 7

-- What is promised of a reading.
pub record BusReads (s : List ℕ) (r : Reading) : Type 0 where
  pub outcome : Profile s r.outcome
  -- Unless it is 22, the whole answer is the general reader's.
  pub agrees : number_in r.outcome ≢ 22 → r ≡ reading_of (new s)
  -- The hyperperiod of an accepted table divides 10,000.
  pub divides : number_in r.outcome ≡ 0 → r.tasks.hyperperiod ∣ 10000

-- What is promised of a plan.
pub record BusPlans (s : List ℕ) (limit : ℕ) (r : Allocation) : Type 0 where
  pub outcome : Profile s (verdict_outcome r.verdict)
  -- The reader and the planner refuse the same.
  pub refuses : verdict_outcome r.verdict ≡ (reading_of (bus s)).outcome
  -- For an accepted table the whole answer, steps too, is the exact planner's for the table in the old form with its charge and core bytes.
  pub exact : number_in (verdict_outcome r.verdict) ≡ 0 → r ≡ plan_of (beside_of s) limit
