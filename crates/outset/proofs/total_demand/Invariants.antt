-- The loop's invariant: the total is the sum of the demands that were added, each at most a million.
use Prim.Native.Nat.{◌*◌, ◌≤◌}
use mathlib.Core.Path.{◌≡◌}
use lib.ListN.{take}
use Rattle.numbers.specs.Loads.{sum}
use Rattle.outset.proofs.total_demand.Given as goal

abbrev pub invariant-loop-demand : goal.invariant-loop-demand
invariant-loop-demand l = (l.total ≡ sum (take l.demand-index l.demand-items)) × (l.total ≤ l.demand-index * 1000000)
