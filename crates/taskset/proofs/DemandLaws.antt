-- The demands of fields within the limits are exact.
use Prim.Native.Nat.{ℕ, ◌*◌, ◌/◌, ◌≤◌, ◌<◌}
use mathlib.Core.Path.{◌≡◌, refl, sym, ◌∙◌, ap}
use native.Mathlib.Omega.{arith}
use native.Mathlib.Nat.{mul-div_assoc, mul-le-mul_right, mul-div-le, div-mul_cancel, dvd-mul_left_of_dvd, le_trans, le_of_dvd, le-div_iff_mul-le, one-mul, mul-pos}
use Rattle.numbers.specs.Rows.{entry}
use Rattle.numbers.proofs.RowLaws.{get_or-row, row_beyond}
use Rattle.fields.specs.Most.{longest_period, most_multiple}
use Rattle.fields.specs.Fields.{period_at, cost_at}
use Rattle.fields.specs.Hyperperiod.{hyperperiod_of}
use Rattle.taskset.specs.Demands.{demand_of}
use Rattle.taskset.specs.Reading.{task_set_of}
use Rattle.fields.specs.Limits.{Within}
use Rattle.taskset.specs.Promise.{Checked, Exact}
use Rattle.fields.specs.declared.Fields.{Fields}
use Rattle.fields.proofs.HyperperiodLaws.{hyperperiod_is}
use Rattle.taskset.specs.declared.TaskSet.{TaskSet}

module _ {f : Fields} (w : Within f) where
  module _ {k : ℕ} (below : k < f.n) where
    -- the division is exact
    pub demand_exact : demand_of f k * period_at f k ≡ cost_at f k * hyperperiod_of f
    unfolding demand_of
    demand_exact =
        div-mul_cancel (period_at f k)
        (dvd-mul_left_of_dvd (period_at f k) ((hyperperiod_is w).multiple k below) (cost_at f k))

    cost_least : 1 ≤ cost_at f k
    cost_least = omega (arith, (w.budgets k below).0)

    pub cost_small : {x : ℕ} → x ≡ cost_at f k → x ≤ longest_period
    cost_small c = rw c (le_trans (w.costs k below) (w.periods k below).1)

    -- so it can be made first: j jobs, of the cost x each
    pub demand_by : {x h j : ℕ} → x ≡ cost_at f k → h ≡ hyperperiod_of f → j ≡ h / period_at f k → x * j ≡ demand_of f k
    unfolding demand_of
    demand_by c e q = rw (c, q, e) (sym (mul-div_assoc (period_at f k) (cost_at f k) ((hyperperiod_is w).multiple k below)))

    pub demand_range : (1 ≤ demand_of f k) × (demand_of f k ≤ hyperperiod_of f)
    demand_range =
        rw (← demand_by refl refl refl) (
          mul-pos (cost_least)
              ((le-div_iff_mul-le {x = 1} (w.periods k below).0).1
              (rw one-mul (le_of_dvd (hyperperiod_is w).positive ((hyperperiod_is w).multiple k below)))),
          le_trans (mul-le-mul_right (hyperperiod_of f / period_at f k) (w.costs k below))
              (mul-div-le (hyperperiod_of f) (period_at f k)),
        )

    pub demand-fits : {x h j : ℕ} → x ≡ cost_at f k → h ≡ hyperperiod_of f → j ≡ h / period_at f k → x * j ≤ most_multiple
    demand-fits c e q = rw (demand_by c e q) (le_trans demand_range.1 w.multiple)

  -- the task set is exact
  pub task_set_exact : Exact (task_set_of f)
  unfolding task_set_of
  task_set_exact = record {
    hyperperiod = hyperperiod_is w;
    demand = λ k h. rw (get_or-row 0 f.n (demand_of f) k h w.sizes.tasks.1) (demand_exact h);
    range = λ k h. rw (get_or-row 0 f.n (demand_of f) k h w.sizes.tasks.1) (demand_range h);
    beyond = row_beyond 0 f.n (demand_of f);
  }

-- a checked task set has demands of at most 1,000,000
pub demands_small : {t : TaskSet} → Checked t → (k : ℕ) → k < t.fields.n → entry t.demands k ≤ most_multiple
unfolding task_set_of
demands_small c k h =
    rw (ap (λ (x : TaskSet). x.demands) c.is)
    (le_trans ((task_set_exact c.within).range k h).1 c.within.multiple)

-- a checked task set holds the hyperperiod and the demands of its fields
pub hyperperiod_held : {t : TaskSet} → Checked t → t.hyperperiod ≡ hyperperiod_of t.fields
unfolding task_set_of
hyperperiod_held c = ap (λ (x : TaskSet). x.hyperperiod) c.is

pub demand-held : {t : TaskSet} → Checked t → (k : ℕ) → k < t.fields.n → entry t.demands k ≡ demand_of t.fields k
unfolding task_set_of
demand-held {t} c k h = ap (λ (x : TaskSet). entry x.demands k) c.is ∙ get_or-row 0 t.fields.n (demand_of t.fields) k h c.within.sizes.tasks.1
