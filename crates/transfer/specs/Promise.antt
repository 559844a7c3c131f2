-- What is promised of the writer and of the moves, beside the equalities and what any call that stores is promised.
use Rattle.std.specs.Prelude.{ℕ, ◌≡◌, List, length, Ok}
use Rattle.refusal.specs.declared.Cause.TheVariants.{Buffer}
use Rattle.fields.specs.Fields.{cut, Alike}
use Rattle.taskset.specs.Reading.{accepted_reading}
use Rattle.fields.specs.declared.Fields.{Fields}
use Rattle.taskset.specs.Table.{reading_of}
use Rattle.oldform.specs.Form.{old_bytes}
use Rattle.oldform.specs.Limits.{alone}
use Rattle.newform.specs.Form.{new_bytes}
use Rattle.newform.specs.Limits.{new}
use Rattle.storing.specs.Lent.{transfer_of, exit_of}
use Rattle.storing.specs.Promise.{stored_in, Yields}
use Rattle.storing.specs.declared.Transfer.{Transfer}
use Rattle.transfer.specs.Tables.{written, returned}

-- What the writer was given is read back from what it wrote, cut at n.
abbrev pub ReadBack : Fields → Transfer → List ℕ → Type 0
ReadBack f r after = r.outcome ≡ Ok tt → reading_of (new (stored_in r after)) ≡ accepted_reading (cut f)

-- It reads no entry beyond n: fields that are equal up to n give the same answer and output.
abbrev pub Unread : Fields → List ℕ → Transfer → List ℕ → Type 0
Unread f out r after = (g : Fields) → Alike f g → (transfer_of Buffer new_bytes (written g) (length out) ≡ r) × (exit_of Buffer new_bytes (written g) out ≡ after)

-- A table that was moved to the new form reads as it did, so every call on task sets says the same of both; moved back it is the same bytes.
pub record MovedOn (s : List ℕ) (r : Transfer) (after : List ℕ) : Type 0 where
  pub reads : r.outcome ≡ Ok tt → reading_of (new (stored_in r after)) ≡ reading_of (alone s)
  pub returns : r.outcome ≡ Ok tt → Yields Buffer old_bytes (returned (stored_in r after)) s

-- A table that was moved back reads as it did; moved to the new form again it is the same bytes.
pub record MovedBack (s : List ℕ) (r : Transfer) (after : List ℕ) : Type 0 where
  pub reads : r.outcome ≡ Ok tt → reading_of (alone (stored_in r after)) ≡ reading_of (new s)
  pub returns : r.outcome ≡ Ok tt → Yields Buffer new_bytes (alone (stored_in r after)) s
