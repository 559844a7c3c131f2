-- The tests of a placement, one a number, for fields of a table.
use Rattle.std.specs.Prelude.{ℕ, Bool, not, List, ltb, eqb, length}
use Rattle.numbers.specs.First.{first}
use Rattle.numbers.specs.Rows.{entry}
use Rattle.affinity.specs.Permitted.{allowed}
use Rattle.refusal.specs.Tests.{refuse_if, refuse_at}
use Rattle.refusal.specs.declared.Cause.TheVariants.{Placement, NotPermitted}
use Rattle.refusal.specs.Outcome.{Outcome}
use Rattle.fields.specs.declared.Fields.{Fields}
use Rattle.fields.specs.Fields.{affinity_at}

-- number 9: the placement's length is not n,
abbrev pub places_test : Fields → List ℕ → Outcome
places_test f placement = refuse_if (not (eqb (length placement) f.n)) (Placement 0)

-- or an entry is above m
unfoldable pub above_at : List ℕ → ℕ → ℕ → Bool
above_at placement m k = ltb m (entry placement k)

abbrev pub entries_test : Fields → List ℕ → Outcome
entries_test f placement = refuse_at (first (above_at placement f.m) f.n) Placement

-- number 16: the placement uses a core that the task's byte does not permit
unfoldable pub barred_at : Fields → List ℕ → ℕ → Bool
barred_at f placement k = not (allowed (affinity_at f k) (entry placement k))

abbrev pub permitted_test : Fields → List ℕ → Outcome
permitted_test f placement = refuse_at (first (barred_at f placement) f.n) NotPermitted
