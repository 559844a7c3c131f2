-- Worked examples, by computation. Demands are in planning order.
use Prim.Native.Nat.{ℕ}
use mathlib.Core.Path.{◌≡◌, refl}
use mathlib.Core.Bool.{Bool, true, false, xor}
use mathlib.Core.List.{List, [], ◌∷◌, map}
use lib.ListN.{length, replicate}
use Rattle.numbers.specs.First.{first, first_from}
use Rattle.numbers.specs.Sums.{sum_over}
use Rattle.numbers.specs.Loads.{demand_on}
use Rattle.affinity.specs.Permitted.{permitted}
use Rattle.allocation.specs.Placement.{problem_of}
use Rattle.allocation.specs.Rule.{twins, is_empty, some_empty_twin, tried}
use Rattle.allocation.specs.Walk.{WalkAnswer, answer, trace, stored, visit, try_all, entered, bound_after, stored_after, step_into, choices, up_from}

record Example : Type 0 where
  capacity : ℕ
  cores : ℕ
  demands : List ℕ
  affinity : List ℕ
  limit : ℕ
  expected : WalkAnswer

tied : ℕ → ℕ → List ℕ → List ℕ → ℕ → WalkAnswer → Example
tied capacity cores demands affinity limit expected =
    record { capacity = capacity; cores = cores; demands = demands; affinity = affinity; limit = limit; expected = expected }

-- every core permitted
example : ℕ → ℕ → List ℕ → ℕ → WalkAnswer → Example
example capacity cores demands limit expected = tied capacity cores demands (replicate (length demands) 15) limit expected

reply : List ℕ → ℕ → ℕ → Bool → WalkAnswer
reply placement rejected steps spent = record { placement = placement; rejected = rejected; steps = steps; spent = spent }

examples : List Example
examples =
    -- rows a and b
    example 10 1 (7 ∷ 3 ∷ []) 1000000 (reply (1 ∷ 1 ∷ []) 0 2 false)
    ∷ example 10 1 (8 ∷ 3 ∷ []) 1000000 (reply (1 ∷ 0 ∷ []) 3 2 false)
    -- row d: no full placement has the two heaviest tasks on separate cores
    ∷ example 10 2 (5 ∷ 5 ∷ 4 ∷ 3 ∷ 3 ∷ []) 1000000 (reply (1 ∷ 1 ∷ 2 ∷ 2 ∷ 2 ∷ []) 0 5 false)
    -- rows e, f and g: the limit is the walk's length, one less, and 0
    ∷ example 10 1 (7 ∷ 6 ∷ 4 ∷ []) 6 (reply (0 ∷ 1 ∷ 1 ∷ []) 7 6 false)
    ∷ example 10 1 (7 ∷ 6 ∷ 4 ∷ []) 5 (reply (1 ∷ 0 ∷ 0 ∷ []) 10 5 true)
    ∷ example 10 1 (7 ∷ 6 ∷ 4 ∷ []) 0 (reply (0 ∷ 0 ∷ 0 ∷ []) 17 0 true)
    -- without the heaviest task 7 would be rejected
    ∷ example 10 1 (7 ∷ 6 ∷ 3 ∷ []) 1000000 (reply (1 ∷ 0 ∷ 1 ∷ []) 6 3 false)
    -- the excess is 1, so the first plan that rejects 1 ends the walk
    ∷ example 10 2 (5 ∷ 5 ∷ 5 ∷ 5 ∷ 1 ∷ []) 1000000 (reply (1 ∷ 1 ∷ 2 ∷ 2 ∷ 0 ∷ []) 1 5 false)
    -- of several empty cores the lowest is tried: 65 steps if each were
    ∷ example 10 4 (6 ∷ 6 ∷ 6 ∷ 6 ∷ 6 ∷ []) 1000000 (reply (1 ∷ 2 ∷ 3 ∷ 4 ∷ 0 ∷ []) 6 5 false)
    -- core 1 is passed over only for a twin
    ∷ tied 4 2 (4 ∷ 4 ∷ []) (2 ∷ 1 ∷ []) 1000000 (reply (2 ∷ 1 ∷ []) 0 2 false)
    ∷ tied 4 2 (4 ∷ 4 ∷ []) (3 ∷ 1 ∷ []) 1000000 (reply (2 ∷ 1 ∷ []) 0 4 false)
    -- twins are judged over all tasks, those placed too: 6 steps if over those to come
    ∷ tied 4 3 (4 ∷ 4 ∷ 4 ∷ []) (3 ∷ 6 ∷ 1 ∷ []) 1000000 (reply (2 ∷ 3 ∷ 1 ∷ []) 0 7 false)
    ∷ []

answered : Example → WalkAnswer
answered x = answer (problem_of x.capacity x.cores x.demands x.affinity) x.limit

expected : Example → WalkAnswer
expected x = x.expected

examples_hold : map answered examples ≡ map expected examples
unfolding examples example tied reply answered expected answer trace stored visit try_all entered twins is_empty some_empty_twin tried xor first first_from permitted bound_after stored_after step_into choices up_from demand_on sum_over
examples_hold = refl
