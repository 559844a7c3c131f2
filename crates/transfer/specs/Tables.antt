-- The tables that the writer and the move back go by. The move from the old form goes by a table that is read by itself.
use Rattle.std.specs.Prelude.{ℕ, ◌≡◌, Bool, not, ◌||◌, List, [], ◌∷◌, ◌++◌, ◌⊎◌, ◌≢◌, eqb}
use Rattle.numbers.specs.First.{first}
use Rattle.affinity.specs.Permitted.{every_core}
use Rattle.refusal.specs.Tests.{refuse_if}
use Rattle.refusal.specs.Conditions.{Condition, only}
use Rattle.refusal.specs.declared.Cause.TheVariants.{Filling}
use Rattle.refusal.specs.Outcome.{Outcome}
use Rattle.fields.specs.Fields.{affinity_at, Free, Tied}
use Rattle.fields.specs.Tests.{fields_outcome}
use Rattle.fields.specs.Limits.{Within, sizes, charge_above, period_outside, budget_outside, cost_above, affinity_unfit, multiple_above}
use Rattle.taskset.specs.Table.{Table, also}
use Rattle.fields.specs.declared.Fields.{Fields}
use Rattle.newform.specs.Limits.{new}

-- fields with a core byte for each task, as the new form has it
abbrev pub counted : Fields → Fields
counted f = record { n = f.n; m = f.m; charge = f.charge; periods = f.periods; budgets = f.budgets; affinity = f.affinity; given = f.n }

-- Fields that are to be written in the new form. Their refusals, in the order of their tests: numbers 2, 3, 13, 5, 6, 14, 15, 7. Of number 15 the
-- row's length cannot be other than n.
unfoldable pub written : Fields → Table
written f = record {
  fields = counted f;
  outcome = fields_outcome (counted f);
  Valid = Within (counted f);
  conditions = sizes f ++ charge_above f ∷ period_outside f ∷ budget_outside f ∷ cost_above f ∷ affinity_unfit f ∷ multiple_above f ∷ [];
}

-- whether the core byte of a task is another than that of every core
unfoldable pub other_byte : Fields → ℕ → Bool
other_byte f k = not (eqb (affinity_at f k) (every_core f.m))

-- number 18: the charge is not 0, or a core byte is another than that of every core
abbrev pub filling_test : Fields → Outcome
filling_test f = refuse_if (not (eqb f.charge 0) || not (eqb (first (other_byte f) f.n) 0)) Filling

-- The old form has no place for the charge, or for a task that does not permit some core of the table.
abbrev pub other_filling : Fields → Condition
other_filling f = only 18 ((f.charge ≢ 0) ⊎ Tied f)

-- A table of the new form that is to be moved back: its own tests, then number 18.
unfoldable pub returned : List ℕ → Table
returned s = also (new s) (filling_test (new s).fields) (((new s).fields.charge ≡ 0) × Free (new s).fields) (other_filling (new s).fields ∷ [])
