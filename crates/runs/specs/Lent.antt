-- What a call on a log answers and leaves in what it was lent, by the outcome of its tests.
use Rattle.std.specs.Prelude.{ℕ, List, ◌++◌, length, drop, Ok, Err}
use Rattle.refusal.specs.Tests.{by_outcome}
use Rattle.refusal.specs.Outcome.{Outcome}
use Rattle.runs.specs.declared.Logged.{Logged}

-- the answer: the count, or 0 beside a refusal
unfoldable pub logged_by : Outcome → ℕ → Logged
logged_by = by_outcome (λ cause. record { outcome = Err cause; count = 0 }) (λ count. record { outcome = Ok tt; count = count })

-- every entry of the row that was lent: as it was, or what is stored in front of what stands behind it
unfoldable pub exit_by : {A : Type 0} → List A → Outcome → List A → List A
exit_by row = by_outcome (λ cause. row) (λ new. new ++ drop (length new) row)
