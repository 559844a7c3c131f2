-- The twins, the total and the excess are computed as `Prepared` asks; the rest is the walk's.
use Prim.Native.Nat.{◌*◌, ◌-◌}
use mathlib.Core.Path.{ap, ◌∙◌}
use native.Mathlib.Nat.{le_trans}
use Rattle.search.proofs.search.Goals as goal

pub total_demand-total-requires : goal.total_demand-total-requires
total_demand-total-requires c = (c.requires.few, λ k. le_trans (c.requires.each k) c.requires.small)

pub walk-requires : goal.walk-requires
walk-requires c =
    let a = c.args in
    record {
      ranges = c.requires;
      twins_are = c.twin_rows-twins.ensures;
      total_is = c.total_demand-total.ensures;
      excess_is = c.excess_of-excess.ensures ∙ ap (λ x. x - a.m * a.h) c.total_demand-total.ensures;
    }

pub returns : goal.returns
returns c = c.walk.ensures
