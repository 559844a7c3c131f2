-- A table as a call is given it: one value, whatever the bytes that it is stored in and what stands beside them.
use Rattle.std.specs.Prelude.{ℕ, ◌≤◌, List, [], ◌∷◌, ◌++◌}
use Rattle.refusal.specs.Tests.{◌then◌, room_test}
use Rattle.refusal.specs.Conditions.{Condition, Decides, Tested, no_room}
use Rattle.refusal.specs.declared.Cause.{Cause}
use Rattle.refusal.specs.Outcome.{Outcome}
use Rattle.taskset.specs.Reading.{reading_by}
use Rattle.fields.specs.Tests.{fields_outcome}
use Rattle.fields.specs.Limits.{Within, field_conditions}
use Rattle.fields.specs.declared.Fields.{Fields}
use Rattle.taskset.specs.declared.Reading.{Reading}

-- What it says, whether or not it is within the limits; the outcome of its tests; and, as plain statements, its limits and its
-- refusals in the order of their tests.
pub record Table : Type 1 where
  pub fields : Fields
  pub outcome : Outcome
  pub Valid : Type 0
  pub conditions : List Condition

-- fields that stand in no bytes, as a table
unfoldable pub bare : Fields → Table
bare f = record { fields = f; outcome = fields_outcome f; Valid = Within f; conditions = field_conditions f }

-- the table with tests of a call behind its own: their outcome, their limits and their refusals
abbrev pub also : Table → Outcome → Type 0 → List Condition → Table
also t tests Good more = record { fields = t.fields; outcome = t.outcome then tests; Valid = t.Valid × Good; conditions = t.conditions ++ more }

-- the table with a lent output of this room in which so many bytes are to stand: the room is tested behind the table's own tests, with this
-- cause, whose number this is
abbrev pub lent : Cause → ℕ → Table → ℕ → ℕ → Table
lent cause number t size room = also t (room_test cause size room) (size ≤ room) (no_room number size room ∷ [])

-- what reading a table gives
unfoldable pub reading_of : Table → Reading
reading_of t = reading_by t.outcome t.fields

-- A call on a table is accepted exactly if the table is valid, and refused with the first of its conditions that holds.
abbrev pub Decided : Table → Outcome → Type 0
Decided t outcome = Decides t.Valid t.conditions outcome

-- A table whose tests are those of its limits and refusals, and whose limits are at least the paper's limits of fields.
pub record Sound (t : Table) : Type 0 where
  pub tested : Tested t.Valid t.conditions t.outcome
  pub within : t.Valid → Within t.fields
