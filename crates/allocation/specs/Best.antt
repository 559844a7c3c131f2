-- The best plan, over all placements. Tasks are in planning order. Nothing here mentions the walk.
use Rattle.std.specs.Prelude.{ℕ, ◌≤◌, ◌<◌, ◌≡◌, List, ◌∷◌, ◌⊎◌}
use Rattle.allocation.specs.Placement.{Problem, Feasible, rejected}

-- The order of a task's choices: the cores from 1 upward, then leaving it out.
pub data Earlier : ℕ → ℕ → Type 0 where
  core_core : {c d : ℕ} → 1 ≤ c → c < d → Earlier c d
  core_none : {c : ℕ} → 1 ≤ c → Earlier c 0

-- One placement comes before another: compared task by task, its choice is the earlier one at the first difference.
pub data Before : List ℕ → List ℕ → Type 0 where
  here : {c d : ℕ} {p q : List ℕ} → Earlier c d → Before (c ∷ p) (d ∷ q)
  there : {c : ℕ} {p q : List ℕ} → Before p q → Before (c ∷ p) (c ∷ q)

-- The best of all feasible placements: it has the least rejected demand, and among equals it comes first.
pub record BestBy (comes_before : List ℕ → List ℕ → Type 0) (P : Problem) (p : List ℕ) : Type 0 where
  pub feasible : Feasible P p
  pub least : (q : List ℕ) → Feasible P q → rejected P p ≤ rejected P q
  pub first : (q : List ℕ) → Feasible P q → rejected P q ≡ rejected P p → (p ≡ q) ⊎ comes_before p q

-- the best plan, with the tasks in planning order
abbrev pub IsBest : Problem → List ℕ → Type 0
IsBest P p = BestBy Before P p
