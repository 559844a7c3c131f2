-- A plan has sixteen entries; a limit that is the ceiling, or the largest.
use Prim.Native.Nat.{ℕ, ◌≤◌, min}
use mathlib.Core.Path.{◌≡◌, refl, sym, ◌∙◌, ap}
use mathlib.Core.List.{List}
use mathlib.Core.Logic.{◌≢◌}
use lib.ListN.{length, take}
use native.Mathlib.Omega.{arith}
use Rattle.numbers.proofs.RowLaws.{length-row}
use Rattle.refusal.proofs.TestLaws.{by_both}
use Rattle.taskset.specs.Table.{Table}
use Rattle.oldform.specs.Limits.{beside}
use Rattle.planner.specs.Plan.{plan_for, allocation_of, refused_plan, plan_by, plan_of}
use Rattle.planner.specs.declared.Allocation.{Allocation}
use Rattle.planner.specs.declared.Verdict.TheVariants.{Spent}
use Rattle.ceiling.specs.Ceiling.{ceiling_of}
use Rattle.ceiling.specs.Promise.{Promise}
use Rattle.ceiling.specs.declared.StepCeiling.{StepCeiling}
use Rattle.edf.specs.Tick.{TickAnswer, tick}
use Rattle.start.specs.Starts.{start_of}
use Rattle.start.specs.declared.Started.{Started}
use Rattle.snippets.specs.Shown.{first_tick}

-- a plan has sixteen core numbers, a refused one too
pub plan_long : (t : Table) (limit : ℕ) → length (plan_of t limit).placement ≡ 16
unfolding plan_of plan_by plan_for allocation_of refused_plan
plan_long t limit = by_both refused_plan (λ f. plan_for f limit) (λ r. length r.placement ≡ 16) t.outcome t.fields (λ c q. refl) (λ q. length-row 0 t.fields.n _)

-- the plan within the ceiling, or within the largest limit
pub within : (t : Table) {s : StepCeiling} {limit : ℕ} {r : Allocation} → s ≡ ceiling_of t → Promise t s → limit ≡ min s.ceiling 4294967295 → r ≡ plan_of t limit
    → (r ≡ plan_of t (min (ceiling_of t).ceiling 4294967295)) × ((ceiling_of t).ceiling ≤ 4294967295 → r.verdict ≢ Spent)
within t {s} {limit} {r} e p l q = (
  rw (← e, ← l) q,
  (λ h v. p.unspent limit (let k : s.ceiling ≤ 4294967295 = rw e h in omega arith) (ap (λ (x : Allocation). x.verdict) (sym q) ∙ v)),
)

-- plan, fresh core and tick, one after the other
pub first-ticked : (table cores : List ℕ) (n : ℕ) (requests : List ℕ) {plan : Allocation} {started : Started} {answer : TickAnswer}
    → plan ≡ plan_of (beside table 1 cores) 1000000 → started ≡ start_of (beside table 1 cores) (take n plan.placement) 1
    → answer ≡ tick started.core.charge started.core.slots requests → answer ≡ first_tick table cores n requests
unfolding first_tick
first-ticked table cores n requests p s q = rw (← p, ← s) q
