-- The three demands over the definitions that the public contracts equal, each for a table t as a call is given it: `DemandOne t` and so on hold of
-- every sound table, and tables in either stored form are sound (`SoundForms`). A promise that stands below is cited, not told again.
use Rattle.std.specs.Prelude.{ℕ, ◌+◌, ◌*◌, ◌/◌, ◌≤◌, ◌<◌, min, ◌≡◌, true, List, ◌++◌, ◌↔◌, ◌≢◌, length, Ok}
use Rattle.numbers.specs.Rows.{entry}
use Rattle.numbers.specs.Sums.{sum_from_one, product_from_one}
use Rattle.affinity.specs.Permitted.{permitted, every_core}
use Rattle.refusal.specs.Causes.{number_in}
use Rattle.refusal.specs.Conditions.{First, Fails, Gives, Decides}
use Rattle.fields.specs.Fields.{period_at, budget_at, cost_at, affinity_at, Free}
use Rattle.fields.specs.Hyperperiod.{hyperperiod_of}
use Rattle.taskset.specs.Demands.{demand_of, load_on}
use Rattle.fields.specs.Limits.{Sized, Within, charge_above, budget_outside, cost_above, row_other, affinity_unfit}
use Rattle.taskset.specs.Promise.{Reads}
use Rattle.taskset.specs.Table.{Table, bare, reading_of, Decided, Sound}
use Rattle.fields.specs.declared.Fields.{Fields}
use Rattle.form.specs.Layout.{ReadsIn}
use Rattle.oldform.specs.Form.{every_affinity, FormBeside}
use Rattle.oldform.specs.Limits.{beside, alone}
use Rattle.newform.specs.Form.{NewForm}
use Rattle.newform.specs.Limits.{new}
use Rattle.bus.specs.Limits.{bus}
use Rattle.transfer.specs.Tables.{written, returned}
use Rattle.allocation.specs.EntryRule.{Twins}
use Rattle.allocation.specs.TableOrder.{in_planning_order}
use Rattle.planning.specs.Problem.{table_problem, order_of}
use Rattle.plans.specs.Safe.{choices_of, Safe}
use Rattle.planner.specs.Plan.{plan_of, verdict_outcome}
use Rattle.planner.specs.Promise.{Promise, WalkRule, Plans}
use Rattle.planner.specs.declared.Verdict.TheVariants.{All, Spent}
use Rattle.quick.specs.Quick.{quick_of}
use Rattle.quick.specs.Promise.{Lowest, Descent, RefusedQuick}
use Rattle.ceiling.specs.Ceiling.{ceiling_of}
use Rattle.ceiling.specs.Promise.{Ceils, Few}
use Rattle.firmware.specs.Call.{with_buffer, code_for, buffer_after}
use Rattle.firmware.specs.Service.{Answers}
use Rattle.edf.specs.Fresh.{Tasks, budget}
use Rattle.edf.specs.Guarantee.{asked_in, owed_in, TickGuarantee}
use Rattle.edf.specs.Tick.{owed_for, tick as tick_of}
use Rattle.runner.specs.declared.Core.{Core}
use Rattle.runner.specs.declared.Ticked.{Ticked}
use Rattle.runner.specs.Answers.{tick_answer}
use Rattle.runner.specs.Records.{ValidRecord, record_conditions}
use Rattle.runner.specs.Plain.{PlainRefusal}
use Rattle.entries.specs.Limits.{core_above, core_barred}
use Rattle.placing.specs.Limits.{placing_alone, placed}
use Rattle.start.specs.Starts.{placed_tasks, start_of}
use Rattle.start.specs.Promise.{Starts}

-- What a call can be given: a stored table with any charge and core bytes beside it, one by itself, one in the new form, one for bus drives, one that is
-- to be moved back, fields that stand in no bytes, and fields that are to be written. Its tests are those of its limits, and its conditions those of the paper's table.
pub record SoundForms : Type 0 where
  pub besides : (table : List ℕ) (charge : ℕ) (affinity : List ℕ) → Sound (beside table charge affinity)
  pub alones : (table : List ℕ) → Sound (alone table)
  pub news : (table : List ℕ) → Sound (new table)
  pub buses : (table : List ℕ) → Sound (bus table)
  pub returneds : (table : List ℕ) → Sound (returned table)
  pub bares : (fields : Fields) → Sound (bare fields)
  pub writtens : (fields : Fields) → Sound (written fields)
  -- What a reader accepts stands in the bytes, each part at its place, and is 0 beyond n; charge and core bytes beside the old form are those given.
  pub beside-stored : (table : List ℕ) (charge : ℕ) (affinity : List ℕ) → ReadsIn (FormBeside charge affinity) table (reading_of (beside table charge affinity))
  pub alone-stored : (table : List ℕ) → ReadsIn (FormBeside 0 (every_affinity table)) table (reading_of (alone table))
  pub new-stored : (table : List ℕ) → ReadsIn NewForm table (reading_of (new table))
  pub bus-stored : (table : List ℕ) → ReadsIn NewForm table (reading_of (bus table))

-- Demand 1. The first two sentences are of the planner; the second is said of every other call as well.
pub record DemandOne (t : Table) : Type 0 where
  -- Every planner call that is within its stated limits is accepted and gets a plan, or the plain statement that the step limit ran out.
  pub within : (limit : ℕ) → t.Valid → Gives (verdict_outcome (plan_of t limit).verdict) 0 0
  -- A call outside its limits is refused with the number and place that the paper gives: those of the first condition that holds, and never otherwise.
  pub outside : (limit number place : ℕ) → 1 ≤ number → Gives (verdict_outcome (plan_of t limit).verdict) number place ↔ First t.conditions number place
  -- So are the calls of the quick planner, of the step ceiling, of the readers, of a fresh core and of the firmware.
  pub quick : Decided t (quick_of t).outcome
  pub ceiling : Decided t (ceiling_of t).outcome
  pub reader : Decided t (reading_of t).outcome
  pub fresh : (placement : List ℕ) (core : ℕ) → Decided (placed t placement core) (start_of t placement core).outcome
  pub entry : (buffer : List ℕ) (limit : ℕ)
      → Answers (with_buffer t (length buffer)) buffer (code_for (with_buffer t (length buffer)) limit) (buffer_after (with_buffer t (length buffer)) limit buffer)
  -- A refused reading, plan, quick plan, step ceiling or fresh core is zeros, each with its own promise.
  pub reads : Reads (reading_of t)
  pub plans : (limit : ℕ) → Plans t limit (plan_of t limit)
  pub quicks : number_in (quick_of t).outcome ≢ 0 → RefusedQuick (quick_of t)
  pub ceilings : number_in (ceiling_of t).outcome ≢ 0 → (ceiling_of t).ceiling ≡ 0
  pub starts : (placement : List ℕ) (core : ℕ) → Starts t placement core (start_of t placement core)
  -- And lent memory then holds what it held before: tables and placements are lent to be read, and the firmware's plan buffer is unchanged.
  pub unchanged : (buffer : List ℕ) (limit : ℕ) → 100 ≤ code_for (with_buffer t (length buffer)) limit → buffer_after (with_buffer t (length buffer)) limit buffer ≡ buffer

-- Demand 1 of a tick, whose answer r is any that the definition gives: a refused one hands back its record, run 0 and late 0.
pub record TickDemand : Type 0 where
  pub tick : (core : Core) (requests : List ℕ) (r : Ticked) → tick_answer r ≡ tick_of core.charge core.slots requests
      → Decides (ValidRecord core.charge core.slots) (record_conditions core.charge core.slots) r.outcome
  pub ticks : (core : Core) (requests : List ℕ) (r : Ticked) → tick_answer r ≡ tick_of core.charge core.slots requests → number_in r.outcome ≢ 0
      → PlainRefusal core r

-- Demand 2 is the planner's promise, sentence by sentence, for every valid table and every step limit.
abbrev pub DemandTwo : Table → Type 0
DemandTwo t = (limit : ℕ) → t.Valid → Promise t.fields limit (plan_of t limit)

-- The quick plan. Of demand 2 the first sentence binds it; the rest says what it is, and how it stands to the exact plan.
pub record QuickDemand (t : Table) : Type 0 where
  -- No plan puts an exact load above one on any core; each task has a core of the table, or is left out.
  pub safe : t.Valid → (core : ℕ) → 1 ≤ core → core ≤ t.fields.m → load_on t.fields (choices_of t.fields (quick_of t).placement) core ≤ hyperperiod_of t.fields
  pub placed : t.Valid → Safe t.fields (quick_of t).placement (quick_of t).rejected
  -- Each task, in the planning order, is on the lowest permitted core where it fits, or left out.
  pub lowest : t.Valid → Lowest t.fields (quick_of t)
  -- If it leaves nothing out, the exact planner with a limit of at least n gives the same placement in n steps.
  pub exact : t.Valid → (quick_of t).rejected ≡ 0 → (limit : ℕ) → t.fields.n ≤ limit
      → plan_of t limit ≡ record { verdict = All; placement = (quick_of t).placement; rejected = 0; steps = t.fields.n }
  -- Its left-out weight is never below the exact planner's, unless that one was spent.
  pub no_less : (limit : ℕ) → (plan_of t limit).verdict ≢ Spent → (plan_of t limit).rejected ≤ (quick_of t).rejected
  -- More than was asked: with a limit of n the exact planner returns it, and with a larger one nothing that leaves out more, spent or not.
  pub descent : Descent t (quick_of t)

-- The step ceiling, and the walk that it is for.
pub record CeilingDemand (t : Table) : Type 0 where
  -- The walk is depth first over the tasks in the stated order. Its next step is always the first choice ahead that keeps the entry rule: the
  -- task permits the core, whose load stays at most one, what is left out and the excess are below the mark to beat, and no lower-numbered
  -- twin is empty if the core is. No other list of steps is so.
  pub walk : t.Valid → WalkRule t.fields
  -- The ceiling is the sum, over k from 1 to n, of the product over j from 1 to k of the factor for j: the smaller of j and m, plus 1,
  -- where every core is permitted, and otherwise how many cores the jth task in planning order permits, plus 1.
  -- The walk's steps never exceed it,
  pub ceils : t.Valid → Ceils t.fields (ceiling_of t).ceiling
  -- and a limit at or above it never gives spent.
  pub unspent : (limit : ℕ) → (ceiling_of t).ceiling ≤ limit → (plan_of t limit).verdict ≢ Spent
  -- More than was asked: where every core is permitted, the usual limit of 1,000,000 suffices for any table of one core, of two and up
  -- to 12 tasks, of three and up to 10, of four and up to 9.
  pub usual : t.Valid → Free t.fields → Few t.fields → (plan_of t 1000000).verdict ≢ Spent

-- A placement of a table: one entry for each task, a core of the table that its core byte permits, or 0.
pub record ValidPlacement (f : Fields) (placement : List ℕ) : Type 0 where
  pub exact : length placement ≡ f.n
  pub entries : (k : ℕ) → k < f.n → entry placement k ≤ f.m
  pub permits : (k : ℕ) → k < f.n → 1 ≤ entry placement k → permitted (affinity_at f k) (entry placement k) ≡ true

-- Demand 3.
pub record DemandThree (t : Table) : Type 0 where
  -- With a valid table and placement, a core of that table is accepted exactly when its exact load is at most one.
  pub accepted : (placement : List ℕ) (core : ℕ) → t.Valid → ValidPlacement t.fields placement → 1 ≤ core → core ≤ t.fields.m
      → Gives (start_of t placement core).outcome 0 0 ↔ (load_on t.fields placement core ≤ hyperperiod_of t.fields)
  -- The load is exact, and counts the charge: a demand times its period is the budget plus the charge, times the hyperperiod.
  pub exact : t.Valid → (k : ℕ) → k < t.fields.n
      → demand_of t.fields k * period_at t.fields k ≡ (budget_at t.fields k + t.fields.charge) * hyperperiod_of t.fields
  -- For an accepted fresh core, every list of ticks from the record that the call returned has the tick guarantee, sentence by sentence.
  pub ticks : (placement : List ℕ) (core : ℕ) → (start_of t placement core).outcome ≡ Ok tt → (ticks : List (List ℕ))
      → TickGuarantee (placed_tasks t.fields placement) core (start_of t placement core).core.charge (start_of t placement core).core.slots ticks

-- A board without a charge: the charge adds nothing, and what is said above is the base with core bytes.
pub record Uncharged : Type 0 where
  -- A task costs its time, which its demand counts,
  pub cost : (f : Fields) → f.charge ≡ 0 → (k : ℕ) → cost_at f k ≡ budget_at f k
  pub demand : (f : Fields) → f.charge ≡ 0 → (k : ℕ) → demand_of f k ≡ budget_at f k * hyperperiod_of f / period_at f k
  -- and is owed the smaller of request and time.
  pub owed : (time asked : ℕ) → owed_for 0 time asked ≡ min asked time
  pub owed_in_fact : (tasks : Tasks) → tasks.charge ≡ 0 → (ticks : List (List ℕ)) (k p : ℕ)
      → owed_in tasks ticks k p ≡ min (asked_in tasks ticks k p) (budget tasks k)
  -- Number 13 never holds, and 14 only where 6 does, which is tested before it.
  pub thirteen : (f : Fields) → f.charge ≡ 0 → Fails (charge_above f)
  pub fourteen : (f : Fields) → f.charge ≡ 0 → Fails (budget_outside f) → Fails (cost_above f)

-- Each task has the byte of every core of the table.
pub record Every (f : Fields) : Type 0 where
  pub counted : f.given ≡ f.n
  pub bytes : (k : ℕ) → k < f.n → affinity_at f k ≡ every_core f.m

-- A board on which each task may use every core: the core bytes forbid nothing, and what is said above is as without them. The sizes are right.
pub record Untied : Type 0 where
  -- Every choice of a core is permitted,
  pub choices : (f : Fields) → Sized f → Every f → Free f
  -- and all cores are twins: of several empty ones the walk tries the lowest alone.
  pub twins : (f : Fields) → Within f → Every f → (c d : ℕ) → 1 ≤ c → c ≤ f.m → 1 ≤ d → d ≤ f.m → Twins (in_planning_order (table_problem f) (order_of f)) c d
  -- Number 15 never holds, and 16 only where 9 does, which is tested before it.
  pub fifteen : (f : Fields) → Sized f → Every f → Fails (row_other f) × Fails (affinity_unfit f)
  pub sixteen : (f : Fields) (placement : List ℕ) → Sized f → Every f → Fails (core_above f placement) → Fails (core_barred f placement)

-- The factor for j of the step ceiling is then the smaller of j and m, plus 1.
abbrev pub UntiedCeiling : Table → Type 0
UntiedCeiling t = t.Valid → Every t.fields → (ceiling_of t).ceiling ≡ sum_from_one (λ k. product_from_one (λ j. min j t.fields.m + 1) k) t.fields.n

-- A table by itself: the charge is 0 and every core is permitted.
pub record Alone : Type 0 where
  -- It is the table with charge 0 and the byte of every core beside it, so every call answers the same; its numbers are 1 to 7 (`alone`).
  pub fields : (table : List ℕ) → (alone table).fields ≡ (beside table 0 (every_affinity table)).fields
  pub outcome : (table : List ℕ) → (alone table).outcome ≡ (beside table 0 (every_affinity table)).outcome
  pub uncharged : (table : List ℕ) → (alone table).fields.charge ≡ 0
  pub every : (table : List ℕ) (charge : ℕ) → Sized (beside table charge (every_affinity table)).fields → Every (beside table charge (every_affinity table)).fields
  -- A placement is refused with 9, 10 and 11.
  pub fresh : (table placement : List ℕ) (core : ℕ)
      → Decides (placed (alone table) placement core).Valid ((alone table).conditions ++ placing_alone (alone table).fields placement core)
      (start_of (alone table) placement core).outcome
