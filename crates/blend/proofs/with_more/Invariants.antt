-- The loop's invariant: the loads, as far as the pass has come.
use Prim.Native.Nat.{◌+◌}
use Rattle.blend.proofs.OneCore.{OnCores}
use Rattle.blend.proofs.with_more.Given as goal

abbrev pub invariant-loop-k : goal.invariant-loop-k
invariant-loop-k l = OnCores ◌+◌ l.initial.loads l.c l.d l.loads l.k
