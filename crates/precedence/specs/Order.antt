-- The order of tasks that feed each other: each after those that feed it, the lowest ready number first (the field's topological order).
use Rattle.std.specs.Prelude.{ℕ, ◌≤◌, ◌<◌, ◌≡◌, List, get_or}
use Rattle.precedence.specs.Paths.{Task}

-- t stands at one of the first i places
abbrev pub Stands : List ℕ → ℕ → ℕ → Type 0
Stands order i t = (j : ℕ) × (j < i) × (get_or order j 0 ≡ t)

-- t is ready at place i: it is a task, it does not yet stand, and all that feed it do
pub record Ready (Feeds : ℕ → ℕ → Type 0) (n : ℕ) (order : List ℕ) (i t : ℕ) : Type 0 where
  pub task : Task n t
  pub new : Stands order i t → ⊥
  pub fed : (a : ℕ) → Feeds a t → Stands order i a

-- The order of the tasks 1 to n.
pub record IsOrder (Feeds : ℕ → ℕ → Type 0) (n : ℕ) (order : List ℕ) : Type 0 where
  -- Each task stands, once, and nothing else does;
  pub tasks : (i : ℕ) → i < n → Task n (get_or order i 0)
  pub each : (t : ℕ) → Task n t → Stands order n t
  pub once : (i j : ℕ) → i < n → j < n → get_or order i 0 ≡ get_or order j 0 → i ≡ j
  -- each stands after those that feed it;
  pub after : (i j : ℕ) → i < n → j < n → Feeds (get_or order i 0) (get_or order j 0) → i < j
  -- and at every place stands the lowest of those that are ready.
  pub lowest : (i : ℕ) → i < n → (t : ℕ) → Ready Feeds n order i t → get_or order i 0 ≤ t
  -- Entries beyond n are 0.
  pub beyond : (i : ℕ) → n ≤ i → get_or order i 0 ≡ 0
