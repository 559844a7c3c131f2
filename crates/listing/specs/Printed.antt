-- What a program prints of a call on a table.
use Rattle.std.specs.Prelude.{ℕ, ◌≤◌, ◌≡◌, List}
use Rattle.refusal.specs.Causes.{number_of, place_of}
use Rattle.refusal.specs.Tests.{by_outcome}
use Rattle.refusal.specs.Conditions.{First}
use Rattle.refusal.specs.Outcome.{Outcome}
use Rattle.taskset.specs.Table.{Table}
use Rattle.listing.specs.Lines.{refusal_line}

-- the lines of the answer, or the line of a refusal alone
unfoldable pub printed : Outcome → List ℕ → List ℕ
printed = by_outcome (λ cause. refusal_line (number_of cause) (place_of cause)) (λ lines. lines)

-- The output in the table's terms, where these are the lines of a valid one.
pub record Printed (t : Table) (lines output : List ℕ) : Type 0 where
  pub planned : t.Valid → output ≡ lines
  -- A refused table's output is one line: `refused`, number and place of the first condition that holds.
  pub refused : (number place : ℕ) → 1 ≤ number → First t.conditions number place → output ≡ refusal_line number place
