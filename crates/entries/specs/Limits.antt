-- The refusals of a placement, as plain statements.
use Rattle.std.specs.Prelude.{ℕ, ◌≤◌, ◌<◌, ◌≡◌, List, false, ◌≢◌, length}
use Rattle.numbers.specs.Rows.{entry}
use Rattle.affinity.specs.Permitted.{permitted}
use Rattle.refusal.specs.Conditions.{Condition, only, at}
use Rattle.fields.specs.declared.Fields.{Fields}
use Rattle.fields.specs.Fields.{affinity_at}

-- Number 9 of its length, then of its entries,
abbrev pub other_places : Fields → List ℕ → Condition
other_places f placement = only 9 (length placement ≢ f.n)

abbrev pub core_above : Fields → List ℕ → Condition
core_above f placement = at 9 (λ k. f.m < entry placement k) f.n

-- 16 where a task is on a core that its byte does not permit, whichever core is chosen.
abbrev pub core_barred : Fields → List ℕ → Condition
core_barred f placement =
    at 16 (λ k. (1 ≤ entry placement k) × (permitted (affinity_at f k) (entry placement k) ≡ false)) f.n
