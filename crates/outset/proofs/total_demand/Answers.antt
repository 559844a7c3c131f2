-- The loop's invariant: the total is the sum of the demands that were added, each at most a million.
use Prim.Native.Nat.{ℕ, ◌≤◌, ◌<◌}
use mathlib.Core.Path.{◌≡◌, sym, ◌∙◌}
use mathlib.Core.List.{List}
use lib.ListN.{get_or, take, length}
use lib.Seq.{get_or-take, take-length}
use native.Mathlib.Numerals.{add-one}
use native.Mathlib.Omega.{arith}
use Rattle.std.proofs.lemmas.List.{length-take}
use Rattle.numbers.proofs.LoadLaws.{sum-take_zero, sum-take_suc}
use Rattle.outset.proofs.total_demand.Goals as goal

front_small : (n : ℕ) (ds : List ℕ) (i : ℕ) → i < length (take n ds) → ((k : ℕ) → get_or ds k 0 ≤ 1000000) → get_or (take n ds) i 0 ≤ 1000000
front_small n ds i h b = rw (get_or-take n ds i 0 (omega (arith, length-take n ds))) (b i)

pub loop-demand-init : goal.loop-demand-init
loop-demand-init c = (sym (sum-take_zero c.args.demands), omega arith)

pub overflow_add-total : goal.overflow_add-total
overflow_add-total c = omega (arith, length-take c.args.n c.args.demands, front_small _ _ _ c.loop-demand-test.true c.requires.1)

pub loop-demand-preserved : goal.loop-demand-preserved
loop-demand-preserved c = (
  rw (add-one, sum-take_suc) (omega arith),
  omega (arith, front_small _ _ _ c.loop-demand-test.true c.requires.1),
)

pub returns : goal.returns
returns c =
    let all : c.loop-demand.demand-index ≡ length (take c.args.n c.args.demands) = omega arith in
    c.loop-demand.invariant.0 ∙ rw (all, take-length)
