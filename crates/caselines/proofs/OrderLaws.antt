-- The planning order by task numbers.
use Prim.Native.Nat.{ℕ, ◌≤◌, ◌<◌}
use mathlib.Core.Path.{◌≡◌}
use mathlib.Core.List.{List}
use lib.ListN.{get_or}
use native.Mathlib.Omega.{arith}
use Rattle.taskset.specs.declared.TaskSet.{TaskSet}
use Rattle.ordering.specs.Order.{planning_order}
use Rattle.ordering.proofs.OrderLaws.{planning_is}
use Rattle.reorder.specs.Listed.{Listed}
use Rattle.reorder.proofs.ListedLaws.{listed_below}

pub order_listed : (t : TaskSet) {o : List ℕ} → t.fields.n ≤ 16 → o ≡ planning_order t → Listed o t.fields.n
order_listed t few e = record { few = few; each = rw e (planning_is t few).each }

-- a number fits in its type
pub number_small : (order : List ℕ) {n : ℕ} (k : ℕ) → Listed order n → k < n → get_or order k 0 < 16
number_small order k l h = omega (arith, listed_below l k h, l.few)
