-- Laws of the demand on a choice.
use Prim.Native.Nat.{ℕ, zero, suc, ◌+◌, ◌*◌, ◌≤◌, ◌<◌, zero-le}
use native.Mathlib.Nat.{le_refl}
use native.Mathlib.Omega.{arith}
use mathlib.Core.Path.{◌≡◌, refl, sym, ap, ◌∙◌}
use mathlib.Core.Bool.{cond}
use mathlib.Core.List.{List, [], ◌∷◌, ◌++◌}
use mathlib.Core.Logic.{◌≢◌}
use lib.Dec.{eqb}
use lib.ListN.{length, get_or, take, drop, replicate}
use lib.Seq.{take-nil}
use borrow.Author.Tests.{eq-eqb, ne_eqb, lt-ltb}
use Rattle.numbers.specs.Sums.{sum_over, sum_to}
use Rattle.numbers.specs.Loads.{demand_on, sum}
use Rattle.numbers.proofs.BoolLaws.{cond_le}
use Rattle.numbers.proofs.SumLaws.{sum_to_bound, sum_to_add, sum_to-front, sum_to-only}

-- further choices add the demand of their own tasks
pub demand_on-append : (c : ℕ) (ws p r : List ℕ) → demand_on c ws (p ++ r) ≡ demand_on c ws p + demand_on c (drop (length p) ws) r
unfolding demand_on
demand_on-append c [] [] r = refl
demand_on-append c [] (x ∷ p) r = refl
demand_on-append c (w ∷ ws) [] r = omega arith
demand_on-append c (w ∷ ws) (x ∷ p) r = omega (arith, demand_on-append c ws p r)

-- more choices, more demand
pub demand_on_mono : (c : ℕ) (ws p r : List ℕ) → demand_on c ws p ≤ demand_on c ws (p ++ r)
demand_on_mono c ws p r = omega (arith, demand_on-append c ws p r)

pub demand_on-none : (c : ℕ) (ws : List ℕ) → demand_on c ws [] ≡ 0
unfolding demand_on
demand_on-none c [] = refl
demand_on-none c (w ∷ ws) = refl

-- a further choice changes the demand on that choice alone
pub demand_on-other : (c x : ℕ) → x ≢ c → (ws p : List ℕ) → demand_on c ws (p ++ (x ∷ [])) ≡ demand_on c ws p
unfolding demand_on
demand_on-other c x h [] p = refl
demand_on-other c x h (w ∷ ws) [] = rw (ne_eqb x c h, demand_on-none c ws)
demand_on-other c x h (w ∷ ws) (y ∷ p) = rw (demand_on-other c x h ws p)

-- the next task's choice adds its demand
pub demand_on-same : (c : ℕ) (ws p : List ℕ) → length p < length ws → demand_on c ws (p ++ (c ∷ [])) ≡ demand_on c ws p + get_or ws (length p) 0
unfolding demand_on
demand_on-same c [] p h = absurd (omega arith)
demand_on-same c (w ∷ ws) [] h = rw (eq-eqb c c refl, demand_on-none c ws) (omega arith)
demand_on-same c (w ∷ ws) (y ∷ p) h = omega (arith, demand_on-same c ws p (omega arith))

-- no choice has more than all the demand
pub demand_on_le_sum : (c : ℕ) (ws p : List ℕ) → demand_on c ws p ≤ sum ws
unfolding demand_on sum_over
demand_on_le_sum c [] p = zero-le
demand_on_le_sum c (w ∷ ws) [] = zero-le
demand_on_le_sum c (w ∷ ws) (x ∷ p) = omega (arith, demand_on_le_sum c ws p, cond_le (eqb x c) w w (le_refl w))

-- one demand is at most the sum
pub get_or_le_sum : (ws : List ℕ) (k : ℕ) → get_or ws k 0 ≤ sum ws
unfolding sum_over
get_or_le_sum [] k = zero-le
get_or_le_sum (w ∷ ws) zero = omega arith
get_or_le_sum (w ∷ ws) (suc k) = omega (arith, get_or_le_sum ws k)

-- the sum of the first demands
pub sum-take_zero : (ws : List ℕ) → sum (take 0 ws) ≡ 0
unfolding sum_over
sum-take_zero ws = refl

pub sum-take_suc : (ws : List ℕ) (i : ℕ) → sum (take (suc i) ws) ≡ sum (take i ws) + get_or ws i 0
unfolding sum_over
sum-take_suc [] i = rw (take-nil i)
sum-take_suc (w ∷ ws) zero = omega arith
sum-take_suc (w ∷ ws) (suc i) = omega (arith, sum-take_suc ws i)

-- demands of at most h add up to at most i times h
pub sum-take_le : (h : ℕ) (ws : List ℕ) (i : ℕ) → ((k : ℕ) → get_or ws k 0 ≤ h) → sum (take i ws) ≤ i * h
unfolding sum_over
sum-take_le h ws zero b = omega arith
sum-take_le h [] (suc i) b = omega arith
sum-take_le h (w ∷ ws) (suc i) b = omega (arith, sum-take_le h ws i (λ k. b (suc k)), b zero)

-- every task rejected: no core has a load, and all the demand is rejected
pub none_loads : (c : ℕ) → 1 ≤ c → (ws : List ℕ) (n : ℕ) → demand_on c ws (replicate n 0) ≡ 0
unfolding demand_on
none_loads c h [] n = refl
none_loads c h (w ∷ ws) zero = refl
none_loads c h (w ∷ ws) (suc n) = rw (ne_eqb 0 c (λ e. omega arith)) (omega (arith, none_loads c h ws n))

pub none_rejects : (ws : List ℕ) → demand_on 0 ws (replicate (length ws) 0) ≡ sum ws
unfolding demand_on sum_over
none_rejects [] = refl
none_rejects (w ∷ ws) = ap (λ (x : ℕ). w + x) (none_rejects ws)

-- ---- all the demand, and that on a choice, as sums over tasks

pub sum_listed : (ws : List ℕ) → sum ws ≡ sum_to (λ k. get_or ws k 0) (length ws)
unfolding sum_over sum_to
sum_listed [] = refl
sum_listed (w ∷ ws) = ap (λ (s : ℕ). w + s) (sum_listed ws) ∙ sym (sum_to-front (λ k. get_or (w ∷ ws) k 0) (length ws))

-- what task t adds to the demand on c
unfoldable pub share : ℕ → List ℕ → List ℕ → ℕ → ℕ
share c ws q t = cond (eqb (get_or q t 0) c) (get_or ws t 0) 0

pub demand_listed : (c : ℕ) (ws p : List ℕ) → length p ≤ length ws → demand_on c ws p ≡ sum_to (share c ws p) (length p)
unfolding demand_on sum_to share
demand_listed c [] [] h = refl
demand_listed c [] (x ∷ p) h = absurd (omega arith)
demand_listed c (w ∷ ws) [] h = refl
demand_listed c (w ∷ ws) (x ∷ p) h =
    ap (λ (s : ℕ). cond (eqb x c) w 0 + s) (demand_listed c ws p (omega arith)) ∙ sym (sum_to-front (share c (w ∷ ws) (x ∷ p)) (length p))

-- ---- all the demand as a sum over choices

-- each task's demand is on one of the choices below m
pub sum_split : (m : ℕ) (ws p : List ℕ) → length p ≡ length ws → ((k : ℕ) → k < length p → get_or p k 0 < m) → sum ws ≡ sum_to (λ c. demand_on c ws p) m
unfolding demand_on sum_over
sum_split m [] p e h = omega (arith, sum_to_bound (λ c. 0) m 0 (λ k b. omega arith))
sum_split m (w ∷ ws) [] e h = absurd (omega arith)
sum_split m (w ∷ ws) (x ∷ p) e h =
    omega (
      arith,
      sum_to_add (λ c. cond (eqb x c) w 0) (λ c. demand_on c ws p) m,
      rw (lt-ltb x m (h 0 (omega arith))) at (sum_to-only x (λ c. w) m),
      sum_split m ws p (omega arith) (λ k l. h (suc k) (omega arith)),
    )
