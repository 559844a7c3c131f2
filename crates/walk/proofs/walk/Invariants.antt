-- What is left of the walk follows from the loops' variables; each move makes one step of it, or none.
use Prim.Native.Nat.{◌+◌, ◌*◌, ◌-◌, ◌≤◌}
use mathlib.Core.Path.{◌≡◌}
use mathlib.Core.Bool.{false}
use Rattle.walk.proofs.State.{locals, Walking, Improving}
use Rattle.walk.proofs.Choices.{job}
use Rattle.walk.proofs.walk.Given as goal

abbrev pub invariant-choices : goal.invariant-choices
invariant-choices l = Walking (job l.demands l.affinity l.n l.m l.h l.limit) (locals l.path l.loads l.out l.best l.rejected l.bound l.steps l.depth l.next) × (l.depth ≡ l.initial.depth) × (l.initial.steps ≤ l.steps) × (l.spent ≡ false) × Improving l.excess l.m l.out l.bound l.next

abbrev pub decreases-choices : goal.decreases-choices
decreases-choices l = l.m + 2 - l.next

abbrev pub invariant-tasks : goal.invariant-tasks
invariant-tasks l = Walking (job l.demands l.affinity l.n l.m l.h l.limit) (locals l.path l.loads l.out l.best l.rejected l.bound l.steps l.depth l.next) × (l.spent ≡ false) × Improving l.excess l.m l.out l.bound l.next

abbrev pub decreases-tasks : goal.decreases-tasks
decreases-tasks l = 2 * (l.limit - l.steps) + l.depth
