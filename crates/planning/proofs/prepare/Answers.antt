-- The demands and core bytes go into planning order.
use borrow.Author.Rules.{rules}
use Rattle.planning.proofs.PreparedLaws.{order_listed, prepared_is}
use Rattle.planning.proofs.prepare.Goals as goal

pub in_planning_order-demands-requires : goal.in_planning_order-demands-requires
in_planning_order-demands-requires c = (search rules, order_listed c.requires.0 c.requires.1)

pub in_planning_order-affinity-requires : goal.in_planning_order-affinity-requires
in_planning_order-affinity-requires c = (search rules, order_listed c.requires.0 c.requires.1)

pub returns : goal.returns
returns c = prepared_is c.requires.0 c.requires.1 c.in_planning_order-demands.ensures c.in_planning_order-affinity.ensures
