-- The core bytes go into planning order; the rest is the sum of products.
use Rattle.planning.proofs.PreparedLaws.{bytes_are}
use Rattle.ceiling.proofs.PromiseLaws.{ceiling_is}
use Rattle.ceiling.proofs.ceiling_of.Goals as goal

pub prepare-prepared-requires : goal.prepare-prepared-requires
prepare-prepared-requires c = (c.requires, c.planning_order-order.ensures.answer)

pub some_tied-tied-requires : goal.some_tied-tied-requires
some_tied-tied-requires c = c.requires.within.sizes.tasks.1

pub sum_of_products-requires : goal.sum_of_products-requires
sum_of_products-requires c =
    let sized = c.requires.within.sizes in
    (sized.tasks.1, sized.cores.1)

pub returns : goal.returns
returns c = ceiling_is _ (bytes_are c.prepare-prepared.ensures) c.some_tied-tied.ensures c.sum_of_products.ensures
