-- The limits of a dependency list and its refusals as plain statements, and a table with a list behind it as a call is given it.
use Rattle.std.specs.Prelude.{ℕ, suc, ◌<◌, List, [], ◌∷◌, get_or}
use Rattle.refusal.specs.Tests.{in_order}
use Rattle.refusal.specs.Conditions.{Condition, at}
use Rattle.fields.specs.declared.Fields.{Fields}
use Rattle.taskset.specs.Table.{Table, also}
use Rattle.precedence.specs.Paths.{OnCircle}
use Rattle.pairs.specs.Fit.{WellFormed, Feeds, PairFits, list_unformed, pair_unfit}
use Rattle.feeding.specs.Tests.{list_tests}

-- A list that is accepted beside these fields: it is well formed, every pair fits, and no task lies on a circle.
pub record Orderly (f : Fields) (list : List ℕ) : Type 0 where
  pub formed : WellFormed list
  pub fit : (i : ℕ) → i < get_or list 0 0 → PairFits f.n f.periods list i
  pub no_circle : (t : ℕ) → OnCircle (Feeds list) t → ⊥

-- number 21: a circle exists; the place is the first such task
abbrev pub circle_there : Fields → List ℕ → Condition
circle_there f list = at 21 (λ k. OnCircle (Feeds list) (suc k)) f.n

-- The refusals of a list, in the order of their tests.
abbrev pub list_conditions : Fields → List ℕ → List Condition
list_conditions f list = list_unformed list ∷ pair_unfit f.n f.periods list ∷ circle_there f list ∷ []

-- A table with a dependency list: the list is tested behind the table's own tests.
abbrev pub fed_by : Table → List ℕ → Table
fed_by t list = also t (in_order (list_tests t.fields list)) (Orderly t.fields list) (list_conditions t.fields list)
