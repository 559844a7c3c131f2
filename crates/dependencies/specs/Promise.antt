-- What is promised of the answer, in plain statements.
use Rattle.std.specs.Prelude.{ℕ, ◌≡◌, List, ◌≢◌, ◌↔◌, length, replicate}
use Rattle.refusal.specs.Causes.{number_in, place_in}
use Rattle.taskset.specs.Table.{Table}
use Rattle.precedence.specs.Paths.{LowestOnCircle}
use Rattle.precedence.specs.Order.{IsOrder}
use Rattle.pairs.specs.Fit.{Feeds}
use Rattle.feeding.specs.Limits.{Orderly}
use Rattle.dependencies.specs.declared.TaskOrder.{TaskOrder}

-- What is promised of the answer for a table and a list.
pub record Promise (t : Table) (list : List ℕ) (r : TaskOrder) : Type 0 where
  -- It is accepted exactly if the table is valid, the list well formed, every pair fit and no task on a circle.
  pub accepted : (number_in r.outcome ≡ 0) ↔ (t.Valid × Orderly t.fields list)
  -- Then the row is the order of the tasks,
  pub order : number_in r.outcome ≡ 0 → IsOrder (Feeds list) t.fields.n r.order
  -- and no other row of sixteen is.
  pub only : number_in r.outcome ≡ 0 → (other : List ℕ) → length other ≡ 16 → IsOrder (Feeds list) t.fields.n other → other ≡ r.order
  -- Of number 21 the place is the lowest task on a circle.
  pub circle : number_in r.outcome ≡ 21 → LowestOnCircle (Feeds list) (place_in r.outcome)
  -- A refused list has sixteen zeros.
  pub refused : number_in r.outcome ≢ 0 → r.order ≡ replicate 16 0

-- Two lists with the same pairs, in any order and each given any number of times.
abbrev pub SamePairs : List ℕ → List ℕ → Type 0
SamePairs list other = (a b : ℕ) → Feeds list a b ↔ Feeds other a b

-- The list is refused by neither 19 nor 20.
pub record Named (r : TaskOrder) : Type 0 where
  pub formed : number_in r.outcome ≢ 19
  pub fit : number_in r.outcome ≢ 20
