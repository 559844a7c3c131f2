-- The whole output of the programs `tonew` and `toold`, byte for byte.
use Rattle.std.specs.Prelude.{ℕ, ◌≡◌, List, []}
use Rattle.text.specs.Shown.{shown}
use Rattle.refusal.specs.Outcome.{Outcome}
use Rattle.refusal.specs.Tests.{by_outcome}
use Rattle.taskset.specs.Table.{Table}
use Rattle.fields.specs.declared.Fields.{Fields}
use Rattle.listing.specs.Printed.{printed}
use Rattle.movereport.specs.declared.Moved.{Moved}

-- The texts show these bytes, for standard output and for standard error.
pub record Shows (bytes line : List ℕ) (r : Moved) : Type 0 where
  pub table : shown r.table ≡ bytes
  pub refusal : shown r.refusal ≡ line

-- the bytes of the moved table, or none beside a refusal
unfoldable pub moved_bytes : Outcome → List ℕ → List ℕ
moved_bytes = by_outcome (λ cause. []) (λ bytes. bytes)

-- The output of a move of this table, whose fields are moved as these bytes: these, or the line of the refusal.
abbrev pub MoveOutput : (Fields → List ℕ) → Table → Moved → Type 0
MoveOutput bytes t r = Shows (moved_bytes t.outcome (bytes t.fields)) (printed t.outcome []) r
