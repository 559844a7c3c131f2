-- The cores of every plan can be started, and each placed task is served; and what the quick plan promises.
use Rattle.std.specs.Prelude.{Ok}
use Prim.Native.Nat.{ℕ, ◌+◌, ◌≤◌, ◌<◌}
use mathlib.Core.Path.{◌≡◌, refl, ◌∙◌}
use mathlib.Core.List.{List}
use lib.ListN.{length}
use lib.Seq.{get_or-take}
use Rattle.numbers.specs.Rows.{entry}
use Rattle.numbers.proofs.RowLaws.{length-tab}
use Rattle.refusal.proofs.ConditionLaws.{no_number}
use Rattle.taskset.specs.Demands.{demand_of}
use Rattle.taskset.specs.Table.{Table, Sound}
use Rattle.planning.specs.Problem.{table_problem}
use Rattle.plans.specs.Safe.{Safe}
use Rattle.quick.proofs.PromiseLaws.{quick_decided, quick_fits}
use Rattle.edf.specs.Guarantee.{period_start, received_in, owed_in}
use Rattle.start.specs.Starts.{start_of}
use Rattle.guarantees.specs.Demands.{ValidPlacement, QuickDemand}
use Rattle.guarantees.specs.Chain.{Plan, exactly, quickly, row_of, placement_of, left_out_of, tasks_of, answers_of, Chain}
use Rattle.guarantees.proofs.DemandLaws.{demand-two, demand-three}

-- what both planners promise
safe : {t : Table} → Sound t → (plan : Plan) → t.Valid → Safe t.fields (row_of t plan) (left_out_of t plan)
safe s (exactly limit) v = (demand-two s limit v).safe
safe s quickly v = (quick_fits s refl).safe v

module _ {t : Table} (s : Sound t) (plan : Plan) (v : t.Valid) where
  promise : Safe t.fields (row_of t plan) (left_out_of t plan)
  promise = safe s plan v

  long : length (placement_of t plan) ≡ t.fields.n
  unfolding table_problem
  long = promise.feasible.whole ∙ length-tab 0 t.fields.n (demand_of t.fields)

  -- the task's entry
  taken : (k : ℕ) → k < t.fields.n → entry (placement_of t plan) k ≡ entry (row_of t plan) k
  taken k h = get_or-take t.fields.n (row_of t plan) k 0 h

  valid_placement : ValidPlacement t.fields (placement_of t plan)
  unfolding table_problem
  valid_placement = record {
    exact = long;
    entries = λ k h. promise.feasible.core k (rw long h);
    permits = λ k h i. rw (taken k h) (promise.permitted k h (rw (taken k h) at i));
  }

  starts_each : (core : ℕ) → 1 ≤ core → core ≤ t.fields.m → (start_of t (placement_of t plan) core).outcome ≡ Ok tt
  starts_each core least most = no_number _ (((demand-three s).accepted (placement_of t plan) core v valid_placement least most).1 (promise.loads core least most)).0

  served_each : (ticks : List (List ℕ)) (k p : ℕ) → k < t.fields.n → 1 ≤ entry (placement_of t plan) k
      → period_start (tasks_of t plan) k (p + 1) ≤ length ticks → received_in (tasks_of t plan) (answers_of t plan k ticks) k p ≡ owed_in (tasks_of t plan) ticks k p
  served_each ticks k p below on enough =
      ((demand-three s).ticks (placement_of t plan) (entry (placement_of t plan) k) (starts_each (entry (placement_of t plan) k) on (valid_placement.entries k below)) ticks
      ).complete k p below refl enough

pub chain : {t : Table} → Sound t → Chain t
chain s = record { starts = λ plan core v. starts_each s plan v core; served = served_each s; left_out = λ plan v. (safe s plan v).rejects }

pub quick_demand : {t : Table} → Sound t → QuickDemand t
quick_demand s =
    let fits = quick_fits s refl in
    record {
      safe = λ v core least most. (fits.safe v).loads core least most;
      placed = fits.safe;
      lowest = fits.lowest;
      exact = λ v. fits.exact ((quick_decided s refl).accepted.1 v).0;
      no_less = fits.no_less;
      descent = fits.descent;
    }
