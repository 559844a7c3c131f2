-- The loop's invariant: none of the first d loads is 0 with a twin's core.
use mathlib.Core.Path.{◌≡◌}
use mathlib.Core.Bool.{false}
use Rattle.twins.specs.EmptyTwin.{some_zero_twin}
use Rattle.twins.proofs.some_empty_twin.Given as goal

abbrev pub invariant-loop-d : goal.invariant-loop-d
invariant-loop-d l = some_zero_twin l.loads l.rows l.k l.d ≡ false
