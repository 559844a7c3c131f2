-- The sum of products that the step ceiling is, by the core bytes of tasks in some order.
use Rattle.std.specs.Prelude.{ℕ, pred, ◌+◌, min, Bool, cond, not, List, eqb}
use Rattle.numbers.specs.First.{first}
use Rattle.numbers.specs.Rows.{entry}
use Rattle.numbers.specs.Sums.{sum_from_one, product_from_one}
use Rattle.affinity.specs.Permitted.{permitted_count}

-- how many cores the task at k permits: the ones among the eight bits of its core byte
abbrev pub cores_of : List ℕ → ℕ → ℕ
cores_of affinity k = permitted_count (entry affinity k) 8

-- some of n tasks does not permit all m cores
unfoldable pub some_tied : List ℕ → ℕ → ℕ → Bool
some_tied affinity n m = not (eqb (first (λ k. not (eqb (cores_of affinity k) m)) n) 0)

-- the factor for j: where some task is tied, how many cores the jth task permits, plus 1; otherwise the smaller of j and m, plus 1
unfoldable pub factor_for : Bool → List ℕ → ℕ → ℕ → ℕ
factor_for tied affinity m j = cond tied (cores_of affinity (pred j) + 1) (min j m + 1)

-- the sum, over k from 1 to n, of the product over j from 1 to k of the factor for j
unfoldable pub sum_of_products : (ℕ → ℕ) → ℕ → ℕ
sum_of_products factor n = sum_from_one (λ k. product_from_one factor k) n
