-- The loop's invariant: the first k products have been added.
use Rattle.products.proofs.SumLaws.{Adding}
use Rattle.products.proofs.sum_of_products.Given as goal

abbrev pub invariant-loop-k : goal.invariant-loop-k
invariant-loop-k l = Adding l.tied l.affinity l.m l.n l.sum l.product l.k
