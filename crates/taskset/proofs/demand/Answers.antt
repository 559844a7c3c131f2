-- The exact division is made first, so that the product fits.
use mir.Facts.{Fits-below}
use Rattle.taskset.proofs.DemandLaws.{cost_small, demand_by, demand-fits}
use Rattle.taskset.proofs.demand.Goals as goal

pub overflow_cast-result : goal.overflow_cast-result
overflow_cast-result c = let p = c.requires in Fits-below tt (cost_small p.0 p.2 c.sum.ensures)

pub jobs-requires : goal.jobs-requires
jobs-requires c = let p = c.requires in ((p.0.periods _ p.2).0, rw p.1 p.0.multiple)

pub overflow_mul-result : goal.overflow_mul-result
overflow_mul-result c =
    let p = c.requires in
    Fits-below tt (demand-fits p.0 p.2 c.sum.ensures p.1 c.jobs.ensures)

pub returns : goal.returns
returns c = let p = c.requires in demand_by p.0 p.2 c.sum.ensures p.1 c.jobs.ensures
