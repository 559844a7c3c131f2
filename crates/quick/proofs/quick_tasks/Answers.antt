-- The task set is made ready, the choices of first fit come back into table order.
use Rattle.planning.proofs.PreparedLaws.{demand_small}
use Rattle.planner.proofs.PlanLaws.{ranges}
use Rattle.quick.proofs.QuickLaws.{quick_is}
use Rattle.quick.proofs.quick_tasks.Goals as goal

pub prepare-prepared-requires : goal.prepare-prepared-requires
prepare-prepared-requires c = (c.requires, c.planning_order-order.ensures.answer)

-- demands in either order are within the ranges: a wrong order is refused for its answer
pub first_fit-found-requires : goal.first_fit-found-requires
first_fit-found-requires c =
    let checked = c.requires in
    ranges checked _ (λ k. search (c.prepare-prepared.ensures.small k, demand_small checked k))

pub returns : goal.returns
returns c = quick_is c.requires c.prepare-prepared.ensures c.first_fit-found.ensures c.in_table_order-placement.ensures
