-- What first fit returns.
use Rattle.std.specs.Prelude.{ℕ, ◌+◌, Bool, false, ◌&&◌, List, leb, length}
use Rattle.numbers.specs.Rows.{entry}
use Rattle.affinity.specs.Permitted.{permitted}
use Rattle.allocation.specs.Placement.{Problem, rejected}
use Rattle.allocation.specs.Walk.{WalkAnswer}
use Rattle.allocation.specs.FirstFit.{first_fit}

-- core k + 1 may hold a task with this core byte and demand d: it is permitted, and its load with the demand is at most h
abbrev pub holds : List ℕ → ℕ → ℕ → ℕ → ℕ → Bool
holds loads byte d h k = permitted byte (k + 1) && leb (entry loads k + d) h

-- first fit of a problem as an answer of the walk, whose first descent it is: one step for each task, and no limit that ran out
unfoldable pub fit_answer : Problem → WalkAnswer
fit_answer P = record { placement = first_fit P; rejected = rejected P (first_fit P); steps = length P.demands; spent = false }
