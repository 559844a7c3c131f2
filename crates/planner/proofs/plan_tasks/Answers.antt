-- The task set is made ready, the walk's choices come back into table order.
use Rattle.planning.proofs.PreparedLaws.{demand_small, order_listed, prepared_is}
use Rattle.planner.proofs.PlanLaws.{ranges, plan_is}
use borrow.Author.Rules.{rules}
use Rattle.planner.proofs.plan_tasks.Goals as goal

pub in_planning_order-demands-requires : goal.in_planning_order-demands-requires
in_planning_order-demands-requires c = (search rules, order_listed c.requires c.planning_order-order.ensures.answer)

pub in_planning_order-affinity-requires : goal.in_planning_order-affinity-requires
in_planning_order-affinity-requires c = (search rules, order_listed c.requires c.planning_order-order.ensures.answer)

-- demands in either order are within the ranges: a wrong order is refused for its answer
pub search-found-requires : goal.search-found-requires
search-found-requires c =
    let checked = c.requires in
    let ready = prepared_is checked c.planning_order-order.ensures.answer c.in_planning_order-demands.ensures c.in_planning_order-affinity.ensures in
    ranges checked _ (λ k. search (ready.small k, demand_small checked k))

pub returns : goal.returns
returns c =
    let ready = prepared_is c.requires c.planning_order-order.ensures.answer c.in_planning_order-demands.ensures c.in_planning_order-affinity.ensures in
    plan_is ready _ c.search-found.ensures c.in_table_order-placement.ensures c.verdict_of-verdict.ensures
