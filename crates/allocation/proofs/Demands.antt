-- Laws of choices that no task has, of sums over tasks, and of the excess.
use Prim.Native.Nat.{ℕ, zero, suc, ◌≤◌, ◌<◌}
use native.Mathlib.Omega.{arith}
use mathlib.Core.Path.{◌≡◌, refl}
use mathlib.Core.List.{List, [], ◌∷◌}
use lib.ListN.{length, get_or}
use borrow.Author.Tests.{eq-eqb, ne_eqb}
use Rattle.numbers.specs.Loads.{demand_on}
use Rattle.numbers.proofs.SumLaws.{sum_to-front, sum_to_bound}
use Rattle.numbers.proofs.LoadLaws.{share, sum_listed, demand_listed, sum_split}
use Rattle.allocation.specs.Placement.{Problem, Feasible, rejected, total, excess, load}
use Rattle.allocation.specs.EntryRule.{Unused, all_demands, demands_with}

-- a choice that no task has takes no demand,
pub unused_none : (c : ℕ) (ws p : List ℕ) → Unused p c → demand_on c ws p ≡ 0
unfolding demand_on
unused_none c [] p h = refl
unused_none c (w ∷ ws) [] h = refl
unused_none c (w ∷ ws) (x ∷ p) h =
    rw (ne_eqb x c (h 0 (omega arith))) (omega (arith, unused_none c ws p (λ k l. h (suc k) (omega arith))))

-- and one that takes none has no task, where each demand is at least 1
pub none_unused : (c : ℕ) (ws p : List ℕ) → length p ≤ length ws → ((k : ℕ) → k < length ws → 1 ≤ get_or ws k 0) → demand_on c ws p ≡ 0 → Unused p c
unfolding demand_on
none_unused c ws [] l h e k i q = omega arith
none_unused c [] (x ∷ p) l h e k i q = omega arith
none_unused c (w ∷ ws) (x ∷ p) l h e zero i q = omega (arith, rw (eq-eqb x c q) at e, h 0 (omega arith))
none_unused c (w ∷ ws) (x ∷ p) l h e (suc k) i q =
    none_unused c ws p (omega arith) (λ j n. h (suc j) (omega arith)) (omega arith) k (omega arith) q

-- all demands, and those of a choice, as the entry rule adds them up
pub total-all : (P : Problem) → total P ≡ all_demands P
total-all P = sum_listed P.demands

pub load_with : (P : Problem) (c : ℕ) (p : List ℕ) → length p ≤ length P.demands → load P c p ≡ demands_with P c p
unfolding share
load_with P c p h = demand_listed c P.demands p h

-- a feasible placement rejects at least the excess
pub excess_le : (P : Problem) (q : List ℕ) → Feasible P q → excess P ≤ rejected P q
excess_le P q f =
    omega (
      arith,
      sum_split (suc P.cores) P.demands q f.whole (λ k l. omega (arith, f.core k l)),
      sum_to-front (λ c. load P c q) P.cores,
      sum_to_bound (λ c. load P (suc c) q) P.cores P.capacity (λ k l. f.fits (suc k) (omega arith) l),
    )
