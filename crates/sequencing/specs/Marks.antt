-- Which tasks stand already, as a row of marks.
use Rattle.std.specs.Prelude.{ℕ, Bool, false, List, get_or}

-- the mark of task t
abbrev pub marked : List Bool → ℕ → Bool
marked placed t = get_or placed t false
