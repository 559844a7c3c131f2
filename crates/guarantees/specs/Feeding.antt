-- Tasks that feed each other: what is demanded of the check of a dependency list, over the definition that the call equals.
use Rattle.std.specs.Prelude.{ℕ, suc, ◌≡◌, List, [], ◌∷◌}
use Rattle.numbers.specs.Rows.{row}
use Rattle.taskset.specs.Table.{Table, Decided}
use Rattle.feeding.specs.Limits.{fed_by}
use Rattle.dependencies.specs.Order.{order_of}
use Rattle.dependencies.specs.Promise.{Promise, SamePairs, Named}

pub record FeedDemand (t : Table) : Type 0 where
  -- Demand 1: a list within its limits beside a valid table is accepted, and any other call is refused with the number and place of the first
  -- condition that holds: the table's own numbers, then 19, 20 and 21.
  pub decides : (list : List ℕ) → Decided (fed_by t list) (order_of t list).outcome
  -- An accepted list gives all tasks, each after those that feed it, the lowest ready number first, then zeros, and there is no other such row;
  -- of 21 the place is the lowest task on a circle; a refused list gives sixteen zeros.
  pub orders : (list : List ℕ) → Promise t list (order_of t list)
  -- The same pair given twice counts once: of lists that neither 19 nor 20 refuses, the answer depends only on which pairs there are.
  pub same : (list other : List ℕ) → SamePairs list other → Named (order_of t list) → Named (order_of t other) → order_of t list ≡ order_of t other
  -- A list of the one byte 0 gives 1 to n.
  pub none : t.Valid → (order_of t (0 ∷ [])).order ≡ row 0 t.fields.n suc
