-- A table of the new form as one of the old.
use Rattle.std.specs.Prelude.{ℕ, List, take}
use Rattle.taskset.specs.Table.{Table}
use Rattle.oldform.specs.Form.{old_bytes}
use Rattle.oldform.specs.Limits.{beside}
use Rattle.newform.specs.Limits.{new}

-- a table of the new form in the old one, with its charge and its core bytes beside it
abbrev pub beside_of : List ℕ → Table
beside_of table = beside (old_bytes (new table).fields) (new table).fields.charge (take (new table).fields.n (new table).fields.affinity)
