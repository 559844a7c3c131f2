-- Paths of pairs, and circles. `Feeds a b` says that task a feeds task b; tasks go by their numbers, from 1.
use Rattle.std.specs.Prelude.{ℕ, ◌≤◌}

-- t is one of the tasks 1 to n
pub record Task (n t : ℕ) : Type 0 where
  pub least : 1 ≤ t
  pub most : t ≤ n

-- only tasks 1 to n feed and are fed
abbrev pub AmongTasks : ℕ → (ℕ → ℕ → Type 0) → Type 0
AmongTasks n Feeds = (a b : ℕ) → Feeds a b → Task n a × Task n b

-- a path of one or more pairs from a to b, each beginning where the one before it ends
pub data Path (Feeds : ℕ → ℕ → Type 0) : ℕ → ℕ → Type 0 where
  one : {a b : ℕ} → Feeds a b → Path Feeds a b
  more : {a b c : ℕ} → Feeds a b → Path Feeds b c → Path Feeds a c

-- t lies on a circle: a path leads from t back to t
abbrev pub OnCircle : (ℕ → ℕ → Type 0) → ℕ → Type 0
OnCircle Feeds t = Path Feeds t t

-- t is the lowest task on a circle
pub record LowestOnCircle (Feeds : ℕ → ℕ → Type 0) (t : ℕ) : Type 0 where
  pub circle : OnCircle Feeds t
  pub lowest : (u : ℕ) → OnCircle Feeds u → t ≤ u
