-- Which choices the walk looks at, and which it may pass over and still end with the best plan.
use Rattle.std.specs.Prelude.{ℕ, zero, suc, pred, ◌≤◌, ◌≡◌, Bool, false, not, ◌&&◌, ◌||◌, List, ◌∷◌, ◌++◌, eqb, length}
use Rattle.std.specs.Bool.{xor}
use Rattle.numbers.specs.First.{first}
use Rattle.numbers.specs.Rows.{entry}
use Rattle.affinity.specs.Permitted.{permitted}
use Rattle.allocation.specs.Placement.{Problem, Feasible, load, rejected}
use Rattle.allocation.specs.Best.{Earlier}

-- a task tells two cores apart: by the row of core bytes it permits one of them and not the other
abbrev pub tells_apart : List ℕ → ℕ → ℕ → ℕ → Bool
tells_apart affinity c d task = xor (permitted (entry affinity task) c) (permitted (entry affinity task) d)

-- two cores are twins: none of n tasks tells them apart, each permits both or neither
unfoldable pub twins : List ℕ → ℕ → ℕ → ℕ → Bool
twins affinity n c d = eqb (first (tells_apart affinity c d) n) 0

-- the same of all tasks of a problem, those already placed too
abbrev pub are_twins : Problem → ℕ → ℕ → Bool
are_twins P c d = twins P.affinity (length P.demands) c d

module _ (P : Problem) (p : List ℕ) where
  -- core c is empty once the choices p are made: it has no load
  unfoldable pub is_empty : ℕ → Bool
  is_empty c = eqb (load P c p) 0

  -- one of the cores 1 to k is empty, and a twin of core c
  unfoldable pub some_empty_twin : ℕ → ℕ → Bool
  some_empty_twin c zero = false
  some_empty_twin c (suc k) = (is_empty (suc k) && are_twins P c (suc k)) || some_empty_twin c k

  -- whether the walk looks at choice c of the task after p: at an empty core only if no lower-numbered empty core is its twin
  unfoldable pub tried : ℕ → Bool
  tried c = not (is_empty c && some_empty_twin c (pred c))

-- An earlier choice for the task after p, and choices for the tasks after it, that reject no more than c and r do.
pub record Replacement (P : Problem) (p : List ℕ) (c : ℕ) (r : List ℕ) : Type 0 where
  pub choice : ℕ
  pub rest : List ℕ
  pub earlier : Earlier choice c
  pub feasible : Feasible P (p ++ (choice ∷ rest))
  pub no_more : rejected P (p ++ (choice ∷ rest)) ≤ rejected P (p ++ (c ∷ r))

-- The choices passed over are redundant: for every feasible placement through one there is another through an earlier choice that rejects no more.
abbrev pub Redundant : Problem → Type 0
Redundant P = (p : List ℕ) (c : ℕ) (r : List ℕ) → tried P p c ≡ false → Feasible P (p ++ (c ∷ r)) → Replacement P p c r
