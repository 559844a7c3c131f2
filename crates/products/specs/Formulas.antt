-- The sum of products by the paper's two formulas: nothing here is taken from the definition of a factor.
use Rattle.std.specs.Prelude.{ℕ, pred, ◌+◌, min, ◌≡◌, true, false, cond, List}
use Rattle.numbers.specs.Rows.{entry}
use Rattle.numbers.specs.Sums.{sum_from_one, product_from_one}
use Rattle.affinity.specs.Permitted.{permitted}
use Rattle.products.specs.Products.{factor_for, sum_of_products}

-- What the sum is for n tasks with these core bytes on m cores.
pub record Formulas (affinity : List ℕ) (m n : ℕ) : Type 0 where
  -- Where every task permits every core, the factor for j is the smaller of j and m, plus 1.
  pub free : sum_of_products (factor_for false affinity m) n ≡ sum_from_one (λ k. product_from_one (λ j. min j m + 1) k) n
  -- Where some task does not, it is how many cores the jth task permits, plus 1.
  pub tied : sum_of_products (factor_for true affinity m) n
      ≡ sum_from_one (λ k. product_from_one (λ j. sum_from_one (λ core. cond (permitted (entry affinity (pred j)) core) 1 0) 8 + 1) k) n
