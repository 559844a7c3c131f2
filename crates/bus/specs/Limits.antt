-- A table in the new form for bus drives: its limits and refusals as plain statements, and the table as a call is given it.
use Rattle.std.specs.Prelude.{ℕ, ◌+◌, ◌*◌, ◌<◌, List, [], ◌∷◌, ◌++◌, get_or}
use Rattle.refusal.specs.Tests.{◌then◌, in_order}
use Rattle.refusal.specs.Conditions.{Condition}
use Rattle.refusal.specs.Outcome.{Outcome}
use Rattle.fields.specs.Fields.{period_at}
use Rattle.fields.specs.Tests.{charge_test, periods_test, budgets_test, costs_test, row_test, affinity_test, hyperperiod_test}
use Rattle.fields.specs.Limits.{sizes, charge_above, period_outside, budget_outside, cost_above, affinity_unfit}
use Rattle.fields.specs.declared.Fields.{Fields}
use Rattle.profile.specs.Periods.{Listed}
use Rattle.profile.specs.Tests.{list_test, period_unlisted}
use Rattle.taskset.specs.Table.{Table}
use Rattle.form.specs.Shape.{too_short, other_length}
use Rattle.newform.specs.Form.{new_fields}
use Rattle.newform.specs.Limits.{ValidNew, first_other, new_shape}

-- A table within the paper's limits, each period of which is in the list.
pub record ValidBus (s : List ℕ) : Type 0 where
  pub general : ValidNew s
  pub listed : (k : ℕ) → k < (new_fields s).n → Listed (period_at (new_fields s) k)

-- The refusals that come before number 22: numbers 1, 17, 2, 3, 4, 13 and 5.
abbrev pub earlier : List ℕ → List Condition
earlier s =
    too_short 4 s ∷ first_other s ∷ sizes (new_fields s)
    ++ other_length (4 + 9 * get_or s 1 0) s ∷ charge_above (new_fields s) ∷ period_outside (new_fields s) ∷ []

-- The refusals of a table, in the order of their tests: these, then 22, 6, 14 and 15. Of number 15 the row's length cannot be other than n, and
-- number 7 never holds.
abbrev pub bus_conditions : List ℕ → List Condition
bus_conditions s =
    earlier s ++ period_unlisted (new_fields s) ∷ budget_outside (new_fields s) ∷ cost_above (new_fields s) ∷ affinity_unfit (new_fields s) ∷ []

-- the first tests of the limits: numbers 13, 5 and 22
abbrev pub front_tests : Fields → List Outcome
front_tests f = charge_test f ∷ periods_test f ∷ list_test f ∷ []

-- the general tests of the limits with number 22 directly after number 5: 13, 5, 22, 6, 14, 15 and 7
abbrev pub bus_tests : Fields → List Outcome
bus_tests f = front_tests f ++ budgets_test f ∷ costs_test f ∷ row_test f ∷ affinity_test f ∷ hyperperiod_test f ∷ []

-- the outcome of the tests: those of the shape come first
unfoldable pub bus_outcome : List ℕ → Outcome
bus_outcome s = new_shape s (new_fields s) then in_order (bus_tests (new_fields s))

-- A table in the new form for bus drives.
unfoldable pub bus : List ℕ → Table
bus s = record { fields = new_fields s; outcome = bus_outcome s; Valid = ValidBus s; conditions = bus_conditions s }
