-- The check of a dependency list keeps what is demanded of it, beside every table in the new form.
use mathlib.Core.Path.{refl}
use mathlib.Core.List.{List}
use Prim.Native.Nat.{ℕ}
use Rattle.newform.specs.Limits.{new}
use Rattle.newform.proofs.NewLaws.{new_sound}
use Rattle.dependencies.proofs.PromiseLaws.{order-all, new-below}
use Rattle.dependencies.proofs.SameLaws.{answer-same}
use Rattle.dependencies.proofs.EmptyLaws.{by_numbers}
use Rattle.guarantees.specs.Feeding.{FeedDemand}

pub feed_demand : (table : List ℕ) → FeedDemand (new table)
feed_demand table = record {
  decides = λ list. (order-all (new_sound table) (new-below table) list refl).1.0;
  orders = λ list. (order-all (new_sound table) (new-below table) list refl).1.1;
  same = answer-same (new table);
  none = by_numbers (new_sound table) (new-below table);
}
