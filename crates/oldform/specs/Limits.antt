-- The limits of a stored table and its refusals as plain statements, and the table as a call is given it.
use Rattle.std.specs.Prelude.{ℕ, ◌+◌, ◌*◌, ◌≡◌, List, [], ◌∷◌, ◌++◌, ◌≢◌, length, get_or}
use Rattle.refusal.specs.Conditions.{Condition, only}
use Rattle.refusal.specs.Outcome.{Outcome}
use Rattle.fields.specs.Limits.{Within, sizes, charge_above, period_outside, budget_outside, cost_above, affinity_unfit, multiple_above}
use Rattle.taskset.specs.Table.{Table}
use Rattle.fields.specs.declared.Fields.{Fields}
use Rattle.form.specs.Shape.{short_test, too_short, other_length, form_outcome}
use Rattle.oldform.specs.Form.{task_count, old_length, beside_fields, every_affinity, alone_fields}

-- A table, with the charge and the core bytes beside it, within the paper's limits: the exact length, a core byte for each task, and fields
-- within theirs.
pub record ValidBeside (s : List ℕ) (charge : ℕ) (affinity : List ℕ) : Type 0 where
  pub exact : length s ≡ 2 + 8 * get_or s 0 0
  pub row : length affinity ≡ get_or s 0 0
  pub fields : Within (beside_fields s charge affinity)

-- The refusals of a stored table and of what is given beside it, in the order of their tests: numbers 1, 2, 3, 4, 13, 5, 6, 14, 15, 7. Number 15 is
-- of the row's length, then of each byte.
abbrev pub beside_conditions : List ℕ → ℕ → List ℕ → List Condition
beside_conditions s charge affinity =
    too_short 2 s ∷ sizes (beside_fields s charge affinity)
    ++ other_length (2 + 8 * get_or s 0 0) s ∷ charge_above (beside_fields s charge affinity) ∷ period_outside (beside_fields s charge affinity)
    ∷ budget_outside (beside_fields s charge affinity) ∷ cost_above (beside_fields s charge affinity) ∷ only 15 (length affinity ≢ get_or s 0 0)
    ∷ affinity_unfit (beside_fields s charge affinity) ∷ multiple_above (beside_fields s charge affinity) ∷ []

-- Those of a table that is read by itself: numbers 1, 2, 3, 4, 5, 6, 7.
abbrev pub alone_conditions : List ℕ → List Condition
alone_conditions s =
    too_short 2 s ∷ sizes (alone_fields s)
    ++ other_length (2 + 8 * get_or s 0 0) s ∷ period_outside (alone_fields s) ∷ budget_outside (alone_fields s) ∷ multiple_above (alone_fields s) ∷ []

-- the outcome of the tests, for the fields that the bytes and what is given beside them say
unfoldable pub old_outcome : List ℕ → Fields → Outcome
old_outcome s f = form_outcome (short_test 2 s) (old_length (task_count s)) s f

-- A stored table with the charge and the core bytes that are given beside it,
unfoldable pub beside : List ℕ → ℕ → List ℕ → Table
beside s charge affinity = record {
  fields = beside_fields s charge affinity;
  outcome = old_outcome s (beside_fields s charge affinity);
  Valid = ValidBeside s charge affinity;
  conditions = beside_conditions s charge affinity;
}

-- and one that is read by itself, with charge 0 and every core permitted: of its numbers 13, 14 and 15 need not be named.
unfoldable pub alone : List ℕ → Table
alone s = record {
  fields = alone_fields s;
  outcome = old_outcome s (alone_fields s);
  Valid = ValidBeside s 0 (every_affinity s);
  conditions = alone_conditions s;
}
