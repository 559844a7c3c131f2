-- What is promised of a reading, and of the task set that it holds.
use Rattle.std.specs.Prelude.{ℕ, ◌+◌, ◌*◌, ◌≤◌, ◌<◌, ◌≡◌, ◌≢◌, replicate, Ok}
use Rattle.numbers.specs.Multiples.{IsLcm}
use Rattle.numbers.specs.Rows.{entry}
use Rattle.refusal.specs.Causes.{number_in}
use Rattle.fields.specs.Limits.{Within}
use Rattle.fields.specs.Fields.{period_at, budget_at}
use Rattle.taskset.specs.Reading.{task_set_of}
use Rattle.taskset.specs.declared.TaskSet.{TaskSet}
use Rattle.taskset.specs.declared.Reading.{Reading}

-- A task set as a check makes it: of fields within the limits, with their hyperperiod and demands.
pub record Checked (t : TaskSet) : Type 0 where
  pub within : Within t.fields
  pub is : t ≡ task_set_of t.fields

-- A task set that is exact: its hyperperiod is the least common multiple of the periods,
-- each demand times its period is the budget plus the charge, times the hyperperiod, and entries beyond n are 0.
pub record Exact (t : TaskSet) : Type 0 where
  pub hyperperiod : IsLcm (period_at t.fields) t.fields.n t.hyperperiod
  pub demand : (k : ℕ) → k < t.fields.n → entry t.demands k * period_at t.fields k ≡ (budget_at t.fields k + t.fields.charge) * t.hyperperiod
  pub range : (k : ℕ) → k < t.fields.n → (1 ≤ entry t.demands k) × (entry t.demands k ≤ t.hyperperiod)
  pub beyond : (k : ℕ) → t.fields.n ≤ k → entry t.demands k ≡ 0

-- A refused reading is all zeros beside its cause.
pub record RefusedReading (r : Reading) : Type 0 where
  pub tasks : r.tasks.fields.n ≡ 0
  pub cores : r.tasks.fields.m ≡ 0
  pub charge : r.tasks.fields.charge ≡ 0
  pub periods : r.tasks.fields.periods ≡ replicate 16 0
  pub budgets : r.tasks.fields.budgets ≡ replicate 16 0
  pub affinity : r.tasks.fields.affinity ≡ replicate 16 0
  pub given : r.tasks.fields.given ≡ 0
  pub hyperperiod : r.tasks.hyperperiod ≡ 0
  pub demands : r.tasks.demands ≡ replicate 16 0

-- What is promised of a reading: an accepted one is a checked and exact task set, a refused one is zeros.
pub record Reads (r : Reading) : Type 0 where
  pub checked : r.outcome ≡ Ok tt → Checked r.tasks
  pub exact : r.outcome ≡ Ok tt → Exact r.tasks
  pub refused : number_in r.outcome ≢ 0 → RefusedReading r
