-- A row that lists tasks, counted from 0.
use Rattle.std.specs.Prelude.{ℕ, ◌≤◌, List, map, get_or, take}
use Rattle.numbers.specs.Sorting.{Permutation}

-- The first n entries of a row list the tasks below n, each once.
pub record Listed (order : List ℕ) (n : ℕ) : Type 0 where
  pub few : n ≤ 16
  pub each : Permutation n (take n order)

-- the values at the tasks of a list, in its order, and `zero` past its end: of numbers, the entries of `gather`
abbrev pub gathered : {A : Type 0} → A → List ℕ → List A → ℕ → A
gathered zero tasks values k = get_or (map (λ t. get_or values t zero) tasks) k zero
