-- The loop's invariant: the first k products have been added.
use borrow.Author.Rules.{rules}
use Rattle.products.proofs.SumLaws.{add_start, product_fits, sum_fits, add_next, add_done}
use Rattle.products.proofs.sum_of_products.Goals as goal

pub loop-k-init : goal.loop-k-init
loop-k-init c = search (rules, add_start)

pub overflow_mul-product : goal.overflow_mul-product
overflow_mul-product c = record { fits = product_fits c.loop-k.invariant c.loop-k-test.true c.factor-product.ensures }

pub overflow_add-sum : goal.overflow_add-sum
overflow_add-sum c = search (rules, sum_fits)

pub loop-k-preserved : goal.loop-k-preserved
loop-k-preserved c = search (rules, add_next)

pub returns : goal.returns
returns c = search (rules, add_done)
