-- The numbers before the loop's index are there, whatever says what they are.
use Rattle.std.proofs.Common.{ℕ, length}
use Rattle.decimal.specs.Decimal.{field}
use Rattle.decimal.specs.Joined.{Converts}
use Rattle.decimal.proofs.JoinLaws.{Joined}
use Rattle.decimal.proofs.append_numbers.Given as goal

abbrev pub invariant-loop-x : goal.invariant-loop-x
invariant-loop-x g l =
    (f : _ → ℕ) → Converts (g.T.Into.converts) f → Joined (λ x. field (f x)) 21 (length l.numbers) l.initial.longer l.numbers l.longer l.x-index
