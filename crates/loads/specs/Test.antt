-- The test of a core's load, for fields of a table.
use Rattle.std.specs.Prelude.{ℕ, List, ltb}
use Rattle.refusal.specs.Tests.{refuse_if}
use Rattle.refusal.specs.declared.Cause.TheVariants.{Overload}
use Rattle.refusal.specs.Outcome.{Outcome}
use Rattle.fields.specs.declared.Fields.{Fields}
use Rattle.fields.specs.Hyperperiod.{hyperperiod_of}
use Rattle.taskset.specs.Demands.{load_on}

-- number 11: the chosen core's load is above the hyperperiod
abbrev pub load_test : Fields → List ℕ → ℕ → Outcome
load_test f placement core = refuse_if (ltb (hyperperiod_of f) (load_on f placement core)) Overload
