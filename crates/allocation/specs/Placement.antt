-- Placements of tasks on cores, and which of them are feasible.
use Rattle.std.specs.Prelude.{ℕ, ◌*◌, ◌-◌, ◌≤◌, ◌<◌, ◌≡◌, Bool, true, List, length, get_or}
use Rattle.numbers.specs.Loads.{demand_on, sum}
use Rattle.numbers.specs.Rows.{entry}
use Rattle.affinity.specs.Permitted.{permitted}

-- What is planned. Tasks are counted from 0, in the order of their demands.
pub record Problem : Type 0 where
  -- the hyperperiod (the paper's frame H), which no core's load may exceed
  pub capacity : ℕ
  -- the number of cores, m
  pub cores : ℕ
  -- each task's demand (the paper's weight)
  pub demands : List ℕ
  -- each task's core byte (its affinity)
  pub affinity : List ℕ

-- the problem that a capacity, a number of cores, the tasks' demands and their core bytes state
abbrev pub problem_of : ℕ → ℕ → List ℕ → List ℕ → Problem
problem_of capacity cores demands affinity = record { capacity = capacity; cores = cores; demands = demands; affinity = affinity }

-- whether a task may run on a core
abbrev pub permits : Problem → ℕ → ℕ → Bool
permits P task core = permitted (entry P.affinity task) core

-- A placement is the list of the tasks' choices: a core, 1 to m, or 0 for rejected (the paper's left out). A shorter list is the beginning of one.

module _ (P : Problem) where
  -- the load of core c
  abbrev pub load : ℕ → List ℕ → ℕ
  load c p = demand_on c P.demands p

  -- the rejected demand (the paper's left-out weight)
  abbrev pub rejected : List ℕ → ℕ
  rejected p = demand_on 0 P.demands p

  -- the total demand
  abbrev pub total : ℕ
  total = sum P.demands

  -- the excess: the total demand less m times H, or 0 if that is negative
  abbrev pub excess : ℕ
  excess = total - P.cores * P.capacity

-- A feasible placement: each task has one choice, 0 or a core that it may run on, and no core's load is above the hyperperiod.
pub record Feasible (P : Problem) (p : List ℕ) : Type 0 where
  pub whole : length p ≡ length P.demands
  pub core : (k : ℕ) → k < length p → get_or p k 0 ≤ P.cores
  pub permitted : (k : ℕ) → k < length p → 1 ≤ get_or p k 0 → permits P k (get_or p k 0) ≡ true
  pub fits : (c : ℕ) → 1 ≤ c → c ≤ P.cores → load P c p ≤ P.capacity

-- A full placement: every task has a core.
abbrev pub Full : List ℕ → Type 0
Full p = (k : ℕ) → k < length p → 1 ≤ get_or p k 0
