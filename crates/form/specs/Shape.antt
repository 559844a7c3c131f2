-- The tests of a table's shape, those of its limits behind them, and the refusals of its bytes as plain statements.
use Rattle.std.specs.Prelude.{ℕ, ◌<◌, List, not, ◌≢◌, ltb, eqb, length}
use Rattle.refusal.specs.Tests.{◌then◌, refuse_if, in_order}
use Rattle.refusal.specs.Conditions.{Condition, only}
use Rattle.refusal.specs.declared.Cause.TheVariants.{TooShort, Length}
use Rattle.refusal.specs.Outcome.{Outcome}
use Rattle.fields.specs.Tests.{size_tests, limit_tests}
use Rattle.fields.specs.declared.Fields.{Fields}

-- number 1: the table is shorter than its leading bytes
abbrev pub short_test : ℕ → List ℕ → Outcome
short_test lead s = refuse_if (ltb (length s) lead) TooShort

abbrev pub too_short : ℕ → List ℕ → Condition
too_short lead s = only 1 (length s < lead)

-- number 4: its length is other than its size
abbrev pub length_test : ℕ → List ℕ → Outcome
length_test size s = refuse_if (not (eqb (length s) size)) Length

abbrev pub other_length : ℕ → List ℕ → Condition
other_length size s = only 4 (length s ≢ size)

-- the tests of the leading bytes, the sizes of the fields, number 4
unfoldable pub shape_outcome : Outcome → ℕ → List ℕ → Fields → Outcome
shape_outcome front size s f = (front then in_order (size_tests f)) then length_test size s

-- then the limits of the fields
unfoldable pub form_outcome : Outcome → ℕ → List ℕ → Fields → Outcome
form_outcome front size s f = shape_outcome front size s f then in_order (limit_tests f)
