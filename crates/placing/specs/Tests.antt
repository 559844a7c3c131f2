-- The test of a core number, and all tests of a placing, for fields of a table.
use Rattle.std.specs.Prelude.{ℕ, List, [], ◌∷◌}
use Rattle.numbers.specs.Bounds.{outside}
use Rattle.refusal.specs.Tests.{refuse_if, in_order}
use Rattle.refusal.specs.declared.Cause.TheVariants.{CoreNumber}
use Rattle.refusal.specs.Outcome.{Outcome}
use Rattle.fields.specs.declared.Fields.{Fields}
use Rattle.loads.specs.Test.{load_test}
use Rattle.entries.specs.Tests.{places_test, entries_test, permitted_test}

-- number 10: the core number is 0 or above m
abbrev pub core_test : Fields → ℕ → Outcome
core_test f core = refuse_if (outside 1 f.m core) CoreNumber

-- numbers 9, 16, 10 and 11, in this order
abbrev pub placing_tests : Fields → List ℕ → ℕ → List Outcome
placing_tests f placement core = places_test f placement ∷ entries_test f placement ∷ permitted_test f placement ∷ core_test f core ∷ load_test f placement core ∷ []

-- the outcome of the tests of fields, a placement and a core number
unfoldable pub placing_outcome : Fields → List ℕ → ℕ → Outcome
placing_outcome f placement core = in_order (placing_tests f placement core)
