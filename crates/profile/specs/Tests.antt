-- Number 22: a period that is not in the list of the drive-bus profile.
use Rattle.std.specs.Prelude.{ℕ, Bool, eqb}
use Rattle.numbers.specs.First.{first}
use Rattle.refusal.specs.Tests.{refuse_at}
use Rattle.refusal.specs.Conditions.{Condition, at}
use Rattle.refusal.specs.declared.Cause.TheVariants.{BusPeriod}
use Rattle.refusal.specs.Outcome.{Outcome}
use Rattle.fields.specs.Fields.{period_at}
use Rattle.fields.specs.declared.Fields.{Fields}
use Rattle.profile.specs.Periods.{bus_place, Listed}

-- the period of a task has no place in the list
unfoldable pub unlisted : Fields → ℕ → Bool
unlisted f k = eqb (bus_place (period_at f k)) 0

-- the test, over all tasks
abbrev pub list_test : Fields → Outcome
list_test f = refuse_at (first (unlisted f) f.n) BusPeriod

-- The period of a task is not in the list,
abbrev pub Unlisted : Fields → ℕ → Type 0
Unlisted f k = Listed (period_at f k) → ⊥

-- as a condition, at the first such task.
abbrev pub period_unlisted : Fields → Condition
period_unlisted f = at 22 (Unlisted f) f.n
