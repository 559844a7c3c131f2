-- The output in the table's terms.
use Rattle.std.specs.Prelude.{ℕ, ◌≤◌, List, [], length}
use Rattle.text.specs.Shown.{shown}
use Rattle.refusal.specs.Conditions.{First}
use Rattle.taskset.specs.Table.{Table}
use Rattle.fields.specs.declared.Fields.{Fields}
use Rattle.listing.specs.Lines.{refusal_line}
use Rattle.listing.specs.ReadBack.{RefusalRead}
use Rattle.movereport.specs.Output.{Shows}
use Rattle.movereport.specs.declared.Moved.{Moved}

-- A table that can be moved gives exactly its bytes in the other form, of which there are some; a refused one gives no byte, and on
-- standard error one line: `refused`, number and place of the first condition that holds.
pub record MoveReported (bytes : Fields → List ℕ) (t : Table) (r : Moved) : Type 0 where
  pub moved : t.Valid → Shows (bytes t.fields) [] r
  pub some : t.Valid → 1 ≤ length (shown r.table)
  pub refused : (number place : ℕ) → 1 ≤ number → First t.conditions number place → Shows [] (refusal_line number place) r
  -- That line is read back by the codes of its bytes.
  pub read_back : (number place : ℕ) → 1 ≤ number → First t.conditions number place → RefusalRead number place (shown r.refusal)
