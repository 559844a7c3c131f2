-- First fit (the field's first-fit decreasing): the tasks in planning order, each on the lowest core where it still fits, or left out.
use Rattle.std.specs.Prelude.{ℕ, zero, suc, ◌+◌, ◌≤◌, ◌<◌, ◌≡◌, true, false, List, [], ◌∷◌, ◌++◌, length, get_or, take}
use Rattle.numbers.specs.First.{first}
use Rattle.numbers.specs.Reorder.{gather, scatter}
use Rattle.allocation.specs.Placement.{Problem, permits, Feasible, load, rejected}
use Rattle.allocation.specs.Walk.{fits, trace, stored}
use Rattle.allocation.specs.TableOrder.{in_planning_order, table_answer}

module _ (P : Problem) where
  -- the lowest core on which the task after the choices p fits; 0, for left out, if there is none
  unfoldable pub lowest_fit : List ℕ → ℕ
  lowest_fit p = first (λ k. fits P p (suc k)) P.cores

  -- the choices p, and those of the next k tasks
  unfoldable pub fit_from : ℕ → List ℕ → List ℕ
  fit_from zero p = p
  fit_from (suc k) p = fit_from k (p ++ (lowest_fit p ∷ []))

  -- first fit: a choice for each task
  unfoldable pub first_fit : List ℕ
  first_fit = fit_from (length P.demands) []

-- first fit of a table, in table order
unfoldable pub table_fit : Problem → List ℕ → List ℕ
table_fit T order = scatter order (first_fit (in_planning_order T order))

-- Core c has room for task k beside the tasks before it: it is a core of the table, the task may run there, and with its demand
-- the load is at most H.
pub record Room (P : Problem) (p : List ℕ) (k c : ℕ) : Type 0 where
  pub number : (1 ≤ c) × (c ≤ P.cores)
  pub permitted : permits P k c ≡ true
  pub enough : load P c (take k p) + get_or P.demands k 0 ≤ P.capacity

-- Task k is on the lowest core that has room for it, and left out exactly if none has.
pub record OnLowest (P : Problem) (p : List ℕ) (k : ℕ) : Type 0 where
  pub has_room : 1 ≤ get_or p k 0 → Room P p k (get_or p k 0)
  pub lowest : (c : ℕ) → Room P p k c → (1 ≤ get_or p k 0) × (get_or p k 0 ≤ c)

-- First fit is the walk's first descent.
pub record FirstDescent (P : Problem) : Type 0 where
  -- The walk makes a step for each task at least, and what it has stored by then is first fit.
  pub long : length P.demands ≤ length (trace P)
  pub stores : stored P (length P.demands) ≡ first_fit P
  -- If that rejects nothing, it makes no further step.
  pub alone : rejected P (first_fit P) ≡ 0 → length (trace P) ≡ length P.demands

-- What is promised of first fit for the table T, whose tasks are planned in this order: p is its placement.
pub record QuickGuarantee (T : Problem) (order : List ℕ) (p : List ℕ) : Type 0 where
  -- No core's load is above the hyperperiod.
  pub feasible : Feasible T p
  -- In planning order each task is on the lowest core that has room for it.
  pub lowest : (k : ℕ) → k < length T.demands → OnLowest (in_planning_order T order) (gather order p) k
  -- No other placement has each task there.
  pub only : (q : List ℕ) → length q ≡ length T.demands
      → ((k : ℕ) → k < length T.demands → OnLowest (in_planning_order T order) (gather order q) k) → q ≡ p
  -- If nothing is rejected, the walk gives the same, in a step for each task, whatever the limit above that.
  pub exact : rejected T p ≡ 0 → (limit : ℕ) → length T.demands ≤ limit
      → table_answer T order limit ≡ record { placement = p; rejected = 0; steps = length T.demands; spent = false }
  -- After a step for each task the walk has stored it, and what it stores later rejects no more.
  pub descent : (table_answer T order (length T.demands)).placement ≡ p
  pub later : (limit : ℕ) → length T.demands ≤ limit → (table_answer T order limit).rejected ≤ rejected T p
