-- The walk's entry rule in plain words. Sums are written out over the tasks, and no test of the walk is used.
use Rattle.std.specs.Prelude.{ℕ, ◌+◌, ◌-◌, ◌*◌, ◌≤◌, ◌<◌, ◌≡◌, true, cond, List, [], ◌∷◌, ◌++◌, ◌≢◌, eqb, length, get_or}
use Rattle.numbers.specs.Sums.{sum_to}
use Rattle.allocation.specs.Placement.{Problem, permits}

-- no task has choice c yet: a core is empty
abbrev pub Unused : List ℕ → ℕ → Type 0
Unused p c = (k : ℕ) → k < length p → get_or p k 0 ≢ c

-- two cores are twins: each task permits both or neither
abbrev pub Twins : Problem → ℕ → ℕ → Type 0
Twins P c d = (k : ℕ) → k < length P.demands → permits P k c ≡ permits P k d

-- the demands of all tasks, added up
abbrev pub all_demands : Problem → ℕ
all_demands P = sum_to (λ k. get_or P.demands k 0) (length P.demands)

-- the demands of the tasks with choice c, added up: the load of core c, and for 0 what is left out
abbrev pub demands_with : Problem → ℕ → List ℕ → ℕ
demands_with P c p = sum_to (λ k. cond (eqb (get_or p k 0) c) (get_or P.demands k 0) 0) (length p)

-- The task after the choices p enters choice c, where the incumbent bound (the paper's mark to beat) is b.
pub record Enters (P : Problem) (p : List ℕ) (c b : ℕ) : Type 0 where
  -- It may run on the core, whose load stays at most H with it.
  pub fits : 1 ≤ c → (permits P (length p) c ≡ true) × (demands_with P c p + get_or P.demands (length p) 0 ≤ P.capacity)
  -- What is left out so far, this choice included, is below the bound,
  pub left_out : demands_with P 0 (p ++ (c ∷ [])) < b
  -- and so is the excess: all demands less m times H, or 0 if that is negative.
  pub excess : all_demands P - P.cores * P.capacity < b
  -- If the core is empty, no lower-numbered core that is its twin is empty.
  pub lowest : Unused p c → (d : ℕ) → 1 ≤ d → d < c → Twins P c d → Unused p d → ⊥
