-- The limits of a table in the new form and its refusals as plain statements, and the table as a call is given it.
use Rattle.std.specs.Prelude.{ℕ, ◌+◌, ◌*◌, ◌≡◌, List, [], ◌∷◌, ◌++◌, not, ◌≢◌, eqb, length, get_or}
use Rattle.refusal.specs.Tests.{◌then◌, refuse_if, in_order}
use Rattle.refusal.specs.Conditions.{Condition, only}
use Rattle.refusal.specs.declared.Cause.TheVariants.{FirstByte}
use Rattle.refusal.specs.Outcome.{Outcome}
use Rattle.fields.specs.Tests.{limit_tests}
use Rattle.fields.specs.Limits.{Within, sizes, charge_above, period_outside, budget_outside, cost_above, affinity_unfit, multiple_above}
use Rattle.fields.specs.declared.Fields.{Fields}
use Rattle.taskset.specs.Table.{Table}
use Rattle.form.specs.Shape.{short_test, too_short, other_length, shape_outcome}
use Rattle.newform.specs.Form.{first_byte, task_count, new_length, new_fields}

-- A table within the paper's limits: its first byte is 0, its length exact, and its fields are within theirs.
pub record ValidNew (s : List ℕ) : Type 0 where
  pub first : get_or s 0 0 ≡ 0
  pub exact : length s ≡ 4 + 9 * get_or s 1 0
  pub fields : Within (new_fields s)

-- number 17: the first byte is not 0
abbrev pub first_test : List ℕ → Outcome
first_test s = refuse_if (not (eqb (first_byte s) 0)) FirstByte

abbrev pub first_other : List ℕ → Condition
first_other s = only 17 (get_or s 0 0 ≢ 0)

-- The refusals of a table, in the order of their tests: numbers 1, 17, 2, 3, 4, 13, 5, 6, 14, 15, 7. Of number 15 the row's length cannot be other than n.
abbrev pub new_conditions : List ℕ → List Condition
new_conditions s =
    too_short 4 s ∷ first_other s ∷ sizes (new_fields s)
    ++ other_length (4 + 9 * get_or s 1 0) s ∷ charge_above (new_fields s) ∷ period_outside (new_fields s) ∷ budget_outside (new_fields s) ∷ cost_above (new_fields s)
    ∷ affinity_unfit (new_fields s) ∷ multiple_above (new_fields s) ∷ []

-- the tests of its shape, for the fields that it says: numbers 1, 17, 2, 3 and 4
unfoldable pub new_shape : List ℕ → Fields → Outcome
new_shape s f = shape_outcome (short_test 4 s then first_test s) (new_length (task_count s)) s f

-- the outcome of the tests: the limits of the fields come behind them
unfoldable pub new_outcome : List ℕ → Outcome
new_outcome s = new_shape s (new_fields s) then in_order (limit_tests (new_fields s))

-- A table in the new form.
unfoldable pub new : List ℕ → Table
new s = record { fields = new_fields s; outcome = new_outcome s; Valid = ValidNew s; conditions = new_conditions s }
