-- The tests of a dependency list, one a number, for fields of a table.
use Rattle.std.specs.Prelude.{ℕ, Bool, List, [], ◌∷◌}
use Rattle.numbers.specs.First.{first}
use Rattle.refusal.specs.Tests.{refuse_at}
use Rattle.refusal.specs.declared.Cause.TheVariants.{Pair, Circle}
use Rattle.refusal.specs.Outcome.{Outcome}
use Rattle.fields.specs.declared.Fields.{Fields}
use Rattle.precedence.specs.Circles.{circular}
use Rattle.pairs.specs.Pairs.{pair_count, feeding, fed, unfit, feeds, list_test}

-- pair i is none of n tasks with these periods
unfoldable pub unfit_at : ℕ → List ℕ → List ℕ → ℕ → Bool
unfit_at n periods list i = unfit n periods (feeding list i) (fed list i)

-- number 20: a pair is none of the table's
abbrev pub pairs_test : Fields → List ℕ → Outcome
pairs_test f list = refuse_at (first (unfit_at f.n f.periods list) (pair_count list)) Pair

-- number 21: a task lies on a circle
abbrev pub circle_test : Fields → List ℕ → Outcome
circle_test f list = refuse_at (first (circular (feeds list) f.n) f.n) Circle

-- the tests of a list in order: numbers 19, 20 and 21
abbrev pub list_tests : Fields → List ℕ → List Outcome
list_tests f list = list_test list ∷ pairs_test f list ∷ circle_test f list ∷ []
