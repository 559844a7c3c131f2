-- What the blocks of a case say.
use Rattle.std.specs.Prelude.{ℕ, ◌+◌, ◌*◌, ◌/◌, ◌%◌, List, ◌∷◌, take}
use Rattle.edf.specs.declared.Slot.{Slot}
use Rattle.fields.specs.declared.Fields.{Fields}
use Rattle.wire.specs.Bytes.{le32}
use Rattle.runs.specs.declared.Run.{Run}

-- a block of n bytes, the first ones of some: the length in two bytes, lowest first, and the bytes
abbrev pub block_of : ℕ → List ℕ → List ℕ
block_of n bytes = n % 256 ∷ n / 256 ∷ take n bytes

-- slot k of a record, from 0: period, budget, ticks until release, ticks owed
unfoldable pub slot_in : List ℕ → ℕ → Slot
slot_in bytes k = record { period = le32 bytes (16 * k); budget = le32 bytes (16 * k + 4); until = le32 bytes (16 * k + 8); remaining = le32 bytes (16 * k + 12) }

-- a record of the run log: task, first tick, length
abbrev pub run_in : List ℕ → Run
run_in bytes = record { task = le32 bytes 0; first = le32 bytes 4; length = le32 bytes 8 }

-- the fields that are written: n, m, the charge and the rows as they are, and a core byte for each task
abbrev pub fields_in : ℕ → ℕ → ℕ → List ℕ → List ℕ → List ℕ → Fields
fields_in n m charge periods budgets affinity = record { n = n; m = m; charge = charge; periods = periods; budgets = budgets; affinity = affinity; given = n }
