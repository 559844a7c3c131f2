-- The exact demands and the exact load of a core.
use Rattle.std.specs.Prelude.{ℕ, ◌*◌, ◌/◌, cond, List, eqb}
use Rattle.numbers.specs.Rows.{entry}
use Rattle.numbers.specs.Sums.{sum_to}
use Rattle.fields.specs.Hyperperiod.{hyperperiod_of}
use Rattle.fields.specs.Fields.{period_at, cost_at}
use Rattle.fields.specs.declared.Fields.{Fields}

-- the demand (the paper's weight) of a task: its budget plus the charge, multiplied by the hyperperiod and divided by its period
unfoldable pub demand_of : Fields → ℕ → ℕ
demand_of f k = cost_at f k * hyperperiod_of f / period_at f k

-- the exact load of a core under a placement: the sum of the demands of the tasks whose entry is that core; for core 0, of those left out
unfoldable pub load_on : Fields → List ℕ → ℕ → ℕ
load_on f placement core = sum_to (λ k. cond (eqb (entry placement k) core) (demand_of f k) 0) f.n
