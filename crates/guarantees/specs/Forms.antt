-- The two stored forms of a table, and the way between them: what W7 asks of the writer of the new form, the move from the old form and the move back.
use Rattle.std.specs.Prelude.{ℕ, ◌+◌, ◌*◌, ◌≤◌, ◌≡◌, List, ◌++◌, length, get_or, take, drop, Ok}
use Rattle.wire.specs.Bytes.{Bytes}
use Rattle.refusal.specs.declared.Cause.TheVariants.{Buffer}
use Rattle.fields.specs.Fields.{cut, Alike}
use Rattle.taskset.specs.Reading.{accepted_reading}
use Rattle.fields.specs.declared.Fields.{Fields}
use Rattle.taskset.specs.Table.{Table, lent, reading_of, Decided}
use Rattle.oldform.specs.Form.{old_bytes, OldForm}
use Rattle.oldform.specs.Limits.{alone}
use Rattle.newform.specs.Form.{new_bytes, NewForm}
use Rattle.newform.specs.Limits.{new}
use Rattle.encoding.specs.Beside.{beside_of}
use Rattle.storing.specs.Lent.{transfer_of, exit_of}
use Rattle.transfer.specs.Tables.{written, returned}
use Rattle.storing.specs.Promise.{Stores, stored_in, Yields}
use Rattle.planner.specs.Plan.{plan_of}
use Rattle.quick.specs.Quick.{quick_of}
use Rattle.ceiling.specs.Ceiling.{ceiling_of}
use Rattle.report.specs.Output.{output_of}
use Rattle.quickreport.specs.Output.{quick_output_of}
use Rattle.firmware.specs.Call.{called, code_of, code_for, buffer_after}

-- the table that an accepted call, which stores a table's fields as these bytes, left in front of an output
abbrev pub stored_of : (Fields → List ℕ) → Table → List ℕ → List ℕ
stored_of bytes t out = stored_in (transfer_of Buffer bytes t (length out)) (exit_of Buffer bytes t out)

-- the writer's, the move's to the new form, and the move's back
abbrev pub written_in : Fields → List ℕ → List ℕ
written_in fields out = stored_of new_bytes (written fields) out

abbrev pub new_in : List ℕ → List ℕ → List ℕ
new_in table out = stored_of new_bytes (alone table) out

abbrev pub old_in : List ℕ → List ℕ → List ℕ
old_in table out = stored_of old_bytes (returned table) out

-- A call that is accepted, which stores the fields of a table of bytes.
pub record Accepts (bytes : Fields → List ℕ) (t : Table) (table out : List ℕ) : Type 0 where
  pub small : Bytes table
  pub accepted : (transfer_of Buffer bytes t (length out)).outcome ≡ Ok tt

abbrev pub MovesOn : List ℕ → List ℕ → Type 0
MovesOn table out = Accepts new_bytes (alone table) table out

abbrev pub MovesBack : List ℕ → List ℕ → Type 0
MovesBack table out = Accepts old_bytes (returned table) table out

-- What a call that stores a table's fields does, in this form and size: a call within its limits is accepted, any other is refused with the number and
-- place of the first condition that holds, 8 last (demand 1). An accepted call puts the table in front of the lent output and leaves every byte behind it; a refused
-- one leaves the whole output, and its length is 0.
pub record StoresIn (bytes : Fields → List ℕ) (Form : List ℕ → Type 0) (size : ℕ) (t : Table) : Type 0 where
  pub decides : (out : List ℕ) → Decided (lent Buffer 8 t size (length out)) (transfer_of Buffer bytes t (length out)).outcome
  pub stores : (out : List ℕ) → Stores Form size out (transfer_of Buffer bytes t (length out)) (exit_of Buffer bytes t out)

-- The laws of the two forms, over the definitions that the calls equal.
pub record Forms : Type 0 where
  -- The writer, the move to the new form, and the move back.
  pub writes : (fields : Fields) → StoresIn new_bytes (NewForm fields) (4 + 9 * fields.n) (written fields)
  pub moves-on : (table : List ℕ) → StoresIn new_bytes (NewForm (alone table).fields) (4 + 9 * get_or table 0 0) (alone table)
  pub moves_back : (table : List ℕ) → StoresIn old_bytes (OldForm (new table).fields) (2 + 8 * get_or table 1 0) (returned table)
  -- Reading what the writer wrote gives its fields, with 0 beyond n; writing what was read gives the bytes.
  pub read_back : (fields : Fields) (out : List ℕ) → (transfer_of Buffer new_bytes (written fields) (length out)).outcome ≡ Ok tt
      → reading_of (new (written_in fields out)) ≡ accepted_reading (cut fields)
  pub write_back : (table : List ℕ) → Bytes table → (new table).Valid → Yields Buffer new_bytes (written (new table).fields) table
  -- The writer reads nothing beyond n: fields that are equal up to n give the same answer and output.
  pub unread : (f g : Fields) → Alike f g → (out : List ℕ)
      → (transfer_of Buffer new_bytes (written g) (length out) ≡ transfer_of Buffer new_bytes (written f) (length out))
      × (exit_of Buffer new_bytes (written g) out ≡ exit_of Buffer new_bytes (written f) out)
  -- Old to new to old gives the same bytes, and so does new to old to new where the move back is accepted.
  pub there_and_back : (table out : List ℕ) → MovesOn table out → Yields Buffer old_bytes (returned (new_in table out)) table
  pub back_and_there : (table out : List ℕ) → MovesBack table out → Yields Buffer new_bytes (alone (old_in table out)) table
  -- A moved table reads as it did by itself, with charge 0 and every core permitted, so that every call answers the same (`SameAnswers`),
  pub reads_alike : (table out : List ℕ) → MovesOn table out → reading_of (new (new_in table out)) ≡ reading_of (alone table)
  pub reads_alike_back : (table out : List ℕ) → MovesBack table out → reading_of (alone (old_in table out)) ≡ reading_of (new table)
  -- and the firmware is given that plan's code and core numbers, if its buffer has room for them.
  pub code_alike : (table out : List ℕ) → MovesOn table out → (limit room : ℕ) → (alone table).fields.n ≤ room
      → code_for (called (new_in table out) room) limit ≡ code_of (plan_of (alone table) limit).verdict
  pub buffer_alike : (table out : List ℕ) → MovesOn table out → (limit : ℕ) (buffer : List ℕ) → (alone table).fields.n ≤ length buffer
      → buffer_after (called (new_in table out) (length buffer)) limit buffer
      ≡ take (alone table).fields.n (plan_of (alone table) limit).placement ++ drop (alone table).fields.n buffer
  -- More than was asked: every table of the new form, with its charge and its core bytes beside it in the old form, is valid there, has the same fields,
  -- and reads alike, so that what is said of the calls that keep the old form is said of it.
  pub valid_beside : (table : List ℕ) → (new table).Valid → (beside_of table).Valid
  pub fields-beside : (table : List ℕ) → (new table).Valid → (beside_of table).fields ≡ (new table).fields
  pub reads_beside : (table : List ℕ) → (new table).Valid → reading_of (beside_of table) ≡ reading_of (new table)

-- What calls answer to two tables.
pub record SameAnswers (t u : Table) : Type 0 where
  pub plans : (limit : ℕ) → plan_of t limit ≡ plan_of u limit
  pub quick : quick_of t ≡ quick_of u
  pub ceiling : ceiling_of t ≡ ceiling_of u
  pub output : output_of t ≡ output_of u
  pub quick_output : quick_output_of t ≡ quick_output_of u

-- Tables that read alike get the same answers, whatever their forms.
abbrev pub AnsweredAlike : Type 1
AnsweredAlike = (t u : Table) → reading_of t ≡ reading_of u → SameAnswers t u
