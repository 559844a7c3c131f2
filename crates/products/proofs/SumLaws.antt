-- The sum of products on its way, and what it comes to.
use Prim.Native.Nat.{ℕ, suc, pred, ◌+◌, ◌*◌, ◌-◌, ◌≤◌, ◌<◌}
use native.Mathlib.Nat.{le_trans, mul_comm}
use native.Mathlib.Numerals.{add-one}
use native.Mathlib.Omega.{arith}
use mathlib.Core.Path.{◌≡◌, refl, sym, ap, ap₂, ◌∙◌}
use mathlib.Core.Bool.{Bool}
use mathlib.Core.List.{List}
use lib.ListN.{take}
use lib.Seq.{get_or-take}
use Rattle.numbers.specs.Rows.{entry}
use Rattle.numbers.specs.Sums.{sum_to, product_to, product_from_one}
use Rattle.numbers.proofs.BoolLaws.{cond_both}
use Rattle.numbers.proofs.SumLaws.{sum_to_cong, sum_to_mono, sum_to_bound, product_to_cong, product_to_mono, product_to_grows}
use Rattle.affinity.specs.Permitted.{permitted_count}
use Rattle.affinity.proofs.PermittedLaws.{count_small}
use Rattle.products.specs.Products.{factor_for, sum_of_products}
use Rattle.products.specs.Formulas.{Formulas}

-- ---- sums of products

-- equal factors, and larger ones
pub sums_cong : (f g : ℕ → ℕ) (n : ℕ) → ((j : ℕ) → 1 ≤ j → j ≤ n → f j ≡ g j) → sum_of_products f n ≡ sum_of_products g n
unfolding sum_of_products
sums_cong f g n h =
    sum_to_cong _ _ n (λ k l. product_to_cong (λ i. f (suc i)) (λ i. g (suc i)) (suc k) (λ i b. h (suc i) (omega arith) (omega arith)))

pub sums_mono : (f g : ℕ → ℕ) (n : ℕ) → ((j : ℕ) → 1 ≤ j → j ≤ n → f j ≤ g j) → sum_of_products f n ≤ sum_of_products g n
unfolding sum_of_products
sums_mono f g n h =
    sum_to_mono _ _ n (λ k l. product_to_mono (λ i. f (suc i)) (λ i. g (suc i)) (suc k) (λ i b. h (suc i) (omega arith) (omega arith)))

-- the paper's two
pub formulas : (affinity : List ℕ) (m n : ℕ) → Formulas affinity m n
unfolding sum_of_products factor_for permitted_count
formulas affinity m n = record { free = refl; tied = refl }

-- a factor is at most 9: a byte has eight bits
factor_small : (tied : Bool) (affinity : List ℕ) (m j : ℕ) → m ≤ 4 → factor_for tied affinity m j ≤ 9
unfolding factor_for
factor_small tied affinity m j h =
    cond_both (λ x. x ≤ 9) tied _ _ (omega (arith, count_small (entry affinity (pred j)) 8)) (omega arith)

-- sixteen factors of at most 9
module _ (f : ℕ → ℕ) (small : (j : ℕ) → f j ≤ 9) where
  product_small : (k : ℕ) → k ≤ 16 → product_from_one f k ≤ 1853020188851841
  unfolding product_to
  product_small k l =
      let e : 16 - k + k ≡ 16 = omega arith in
      le_trans (product_to_mono _ (λ j. 9) k (λ j i. small (suc j))) (rw e at (product_to_grows (λ j. 9) k (16 - k) (λ j. omega arith)))

  sum_small : (k : ℕ) → k ≤ 16 → sum_of_products f k ≤ 16 * 1853020188851841
  unfolding sum_of_products
  sum_small k l =
      le_trans (sum_to_bound (λ i. product_from_one f (suc i)) k 1853020188851841 (λ i b. product_small (suc i) (omega arith))) (omega arith)

-- ---- the loop

-- The first k products have been added, and p is the last of them.
pub record Adding (tied : Bool) (affinity : List ℕ) (m n s p k : ℕ) : Type 0 where
  pub few_cores : m ≤ 4
  pub few : n ≤ 16
  pub top : k ≤ n
  pub sum_is : s ≡ sum_of_products (factor_for tied (take n affinity) m) k
  pub product_is : p ≡ product_from_one (factor_for tied (take n affinity) m) k

pub add_start : {tied : Bool} {affinity : List ℕ} {m n : ℕ} → (n ≤ 16) × (m ≤ 4) → Adding tied affinity m n 0 1 0
unfolding sum_of_products sum_to product_to
add_start h = record { few_cores = h.1; few = h.0; top = omega arith; sum_is = refl; product_is = refl }

-- the next factor
module _ {tied : Bool} {affinity : List ℕ} {m n s p k : ℕ} (a : Adding tied affinity m n s p k) (l : k < n) {x : ℕ} (e : x ≡ factor_for tied affinity m (k + 1)) where
  abbrev f : ℕ → ℕ
  f = factor_for tied (take n affinity) m

  small : (j : ℕ) → f j ≤ 9
  small j = factor_small tied (take n affinity) m j a.few_cores

  factor_is : x ≡ f (suc k)
  unfolding factor_for
  factor_is = rw (e, add-one k, get_or-take n affinity k 0 l)

  next_product : p * x ≡ product_from_one f (suc k)
  unfolding product_to
  next_product = mul_comm p x ∙ ap₂ ◌*◌ factor_is a.product_is

  pub product_fits : p * x < 18446744073709551616
  product_fits = omega (arith, next_product, product_small f small (suc k) (omega (arith, a.few)))

  next_sum : s + p * x ≡ sum_of_products f (suc k)
  unfolding sum_of_products sum_to
  next_sum = omega (arith, next_product, a.sum_is)

  pub sum_fits : s + p * x < 18446744073709551616
  sum_fits = omega (arith, next_sum, sum_small f small (suc k) (omega (arith, a.few)))

  pub add_next : Adding tied affinity m n (s + p * x) (p * x) (k + 1)
  add_next = record {
    few_cores = a.few_cores;
    few = a.few;
    top = omega arith;
    sum_is = next_sum ∙ ap (sum_of_products f) (sym (add-one k));
    product_is = next_product ∙ ap (product_from_one f) (sym (add-one k));
  }

pub add_done : {tied : Bool} {affinity : List ℕ} {m n s p k : ℕ} → Adding tied affinity m n s p k → n ≤ k
    → s ≡ sum_of_products (factor_for tied (take n affinity) m) n
add_done {tied} {affinity} {m} {n} {k = k} a h =
    let e : k ≡ n = omega (arith, a.top) in a.sum_is ∙ ap (sum_of_products (factor_for tied (take n affinity) m)) e
