-- What is promised of a call that stores the fields of a table in a lent output, beside the equalities.
use Rattle.std.specs.Prelude.{ℕ, ◌≤◌, ◌≡◌, List, ◌++◌, ◌≢◌, length, take, drop, Ok}
use Rattle.refusal.specs.Causes.{number_in}
use Rattle.refusal.specs.declared.Cause.{Cause}
use Rattle.fields.specs.declared.Fields.{Fields}
use Rattle.taskset.specs.Table.{Table}
use Rattle.storing.specs.Lent.{transfer_of, exit_of}
use Rattle.storing.specs.declared.Transfer.{Transfer}

-- What a call that stores a table of this length does to a lent output, which is `after` at its exit.
pub record Stores (Form : List ℕ → Type 0) (size : ℕ) (out : List ℕ) (r : Transfer) (after : List ℕ) : Type 0 where
  -- An accepted call returns the table's length, the table stands in front, and every byte behind it is what it was.
  pub returned : r.outcome ≡ Ok tt → r.length ≡ size
  pub written : r.outcome ≡ Ok tt → Form after
  pub beyond : r.outcome ≡ Ok tt → drop size after ≡ drop size out
  -- A refused one returns 0 and changes no byte.
  pub nothing : number_in r.outcome ≢ 0 → r.length ≡ 0
  pub untouched : number_in r.outcome ≢ 0 → after ≡ out
  -- The output is as long as it was.
  pub whole : length after ≡ length out

-- the table that an accepted call left in front of the output
abbrev pub stored_in : Transfer → List ℕ → List ℕ
stored_in r after = take r.length after

-- A call that stores a table's fields as these bytes gives exactly s, wherever there is room for it.
pub record Yields (cause : Cause) (bytes : Fields → List ℕ) (t : Table) (s : List ℕ) : Type 0 where
  pub answers : (room : ℕ) → length s ≤ room → transfer_of cause bytes t room ≡ record { outcome = Ok tt; length = length s }
  pub outputs : (out : List ℕ) → length s ≤ length out → exit_of cause bytes t out ≡ s ++ drop (length s) out
