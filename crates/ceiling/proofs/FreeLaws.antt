-- What the ceiling comes to where every core is permitted.
use Prim.Native.Nat.{ℕ, suc, ◌+◌, ◌-◌, ◌≤◌, min}
use native.Mathlib.Omega.{arith}
use mathlib.Core.Path.{◌≡◌, refl}
use Rattle.numbers.specs.Sums.{sum_to, product_to, product_from_one}
use Rattle.numbers.proofs.SumLaws.{sum_to_grows}
use Rattle.ceiling.specs.Promise.{free_ceiling, Worked}

-- fewer tasks have no higher ceiling
pub ceiling_grows : (m : ℕ) {n most : ℕ} → n ≤ most → free_ceiling m n ≤ free_ceiling m most
ceiling_grows m {n} {most} h =
    let e : most - n + n ≡ most = omega arith in
    rw e at (sum_to_grows (λ i. product_from_one (λ j. min j m + 1) (suc i)) n (most - n))

pub worked : Worked
unfolding sum_to product_to
worked = record { one = refl; two = refl; three = refl; four = refl }

-- the highest that are at most 1,000,000
pub usual_ceilings : (free_ceiling 1 16 ≡ 131070) × (free_ceiling 2 12 ≡ 531440) × (free_ceiling 3 10 ≡ 524288) × (free_ceiling 4 9 ≡ 468752)
unfolding sum_to product_to
usual_ceilings = (refl, refl, refl, refl)
