-- The limits of a placing and its refusals, as plain statements.
use Rattle.std.specs.Prelude.{ℕ, ◌≤◌, ◌<◌, ◌≡◌, List, [], ◌∷◌, true, length}
use Rattle.numbers.specs.Bounds.{Outside}
use Rattle.numbers.specs.Rows.{entry}
use Rattle.affinity.specs.Permitted.{permitted}
use Rattle.refusal.specs.Conditions.{Condition, only}
use Rattle.fields.specs.declared.Fields.{Fields}
use Rattle.fields.specs.Fields.{affinity_at}
use Rattle.fields.specs.Hyperperiod.{hyperperiod_of}
use Rattle.taskset.specs.Demands.{load_on}
use Rattle.taskset.specs.Table.{Table, also}
use Rattle.entries.specs.Limits.{other_places, core_above, core_barred}
use Rattle.placing.specs.Tests.{placing_outcome}

-- A placement, a core and its load within the paper's limits.
pub record Placed (f : Fields) (placement : List ℕ) (core : ℕ) : Type 0 where
  pub exact : length placement ≡ f.n
  pub entries : (k : ℕ) → k < f.n → entry placement k ≤ f.m
  pub permitted : (k : ℕ) → k < f.n → 1 ≤ entry placement k → permitted (affinity_at f k) (entry placement k) ≡ true
  pub number : (1 ≤ core) × (core ≤ f.m)
  pub fits : load_on f placement core ≤ hyperperiod_of f

-- The refusals of the chosen core: number 10 of its number,
abbrev pub number_outside : Fields → ℕ → Condition
number_outside f core = only 10 (Outside 1 f.m core)

-- and 11 of its load.
abbrev pub load_above : Fields → List ℕ → ℕ → Condition
load_above f placement core = only 11 (hyperperiod_of f < load_on f placement core)

-- The refusals of the placing, those of the placement first. They are tested in this order, each over all tasks before the next.
abbrev pub placing : Fields → List ℕ → ℕ → List Condition
placing f placement core = other_places f placement ∷ core_above f placement ∷ core_barred f placement ∷ number_outside f core ∷ load_above f placement core ∷ []

-- Where every core is permitted to each task: numbers 9, 10 and 11.
abbrev pub placing_alone : Fields → List ℕ → ℕ → List Condition
placing_alone f placement core = other_places f placement ∷ core_above f placement ∷ number_outside f core ∷ load_above f placement core ∷ []

-- What a fresh core is given: a table, whose tests come first, a placement and a core number.
abbrev pub placed : Table → List ℕ → ℕ → Table
placed t placement core = also t (placing_outcome t.fields placement core) (Placed t.fields placement core) (placing t.fields placement core)
