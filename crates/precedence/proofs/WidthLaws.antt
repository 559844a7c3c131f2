-- Closure, readiness and order depend on what the relation says of the numbers below a width that has room for the tasks.
use Prim.Native.Nat.{ℕ, zero, suc, ◌<◌}
use mathlib.Core.Path.{◌≡◌, refl}
use mathlib.Core.Bool.{Bool, not, ◌&&◌}
use native.Mathlib.Omega.{arith}
use Rattle.numbers.proofs.FirstLaws.{first_cong}
use Rattle.precedence.specs.Circles.{through, reach}
use Rattle.precedence.specs.Sequence.{stands, holds_up, waits, is_ready, next_task, with_next, ordered}

module _ (f g : ℕ → ℕ → Bool) (w : ℕ) (same : (a b : ℕ) → a < w → b < w → f a b ≡ g a b) where
  pub reach_cong : (n : ℕ) → n < w → (a b : ℕ) → a < w → b < w → reach f n a b ≡ reach g n a b
  unfolding reach through
  reach_cong zero l a b x y = same a b x y
  reach_cong (suc n) l a b x y =
      let ih = reach_cong n (omega arith) in
      rw (ih a b x y, ih a (suc n) x l, ih (suc n) b l y)

  module _ (n : ℕ) (few : n < w) where
    ready_cong : (p q : ℕ → Bool) → ((t : ℕ) → t < w → p t ≡ q t) → (k : ℕ) → k < n → is_ready f n p k ≡ is_ready g n q k
    unfolding is_ready waits holds_up
    ready_cong p q alike k h =
        let t : suc k < w = omega arith in
        rw (
          alike (suc k) t,
          first_cong (λ a. f (suc a) (suc k) && not (p (suc a))) (λ a. g (suc a) (suc k) && not (q (suc a))) n
              (λ j b. let u : suc j < w = omega arith in rw (same (suc j) (suc k) u t, alike (suc j) u)),
        )

    pub next_cong : (p q : ℕ → Bool) → ((t : ℕ) → t < w → p t ≡ q t) → next_task f n p ≡ next_task g n q
    unfolding next_task
    next_cong p q alike = first_cong (is_ready f n p) (is_ready g n q) n (ready_cong p q alike)

    pub ordered_cong : (i : ℕ) → ordered f n i ≡ ordered g n i
    unfolding ordered with_next
    ordered_cong zero = refl
    ordered_cong (suc i) =
        let ih = ordered_cong i in
        rw (ih, next_cong (stands (ordered g n i)) (stands (ordered g n i)) (λ t h. refl))
