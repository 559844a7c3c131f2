-- The runs of a row of answers, and the answers of a row of runs.
use Rattle.std.specs.Prelude.{ℕ, suc, ◌+◌, cond, List, [], ◌∷◌, ◌++◌, eqb, replicate}
use Rattle.runs.specs.declared.Run.{Run}

-- a record: task, first tick, length
abbrev pub run : ℕ → ℕ → ℕ → Run
run task first length = record { task = task; first = first; length = length }

-- an answer at tick `at`, in front of the records that follow: it lengthens the first of them if that has the same task, and else
-- makes a record of its own
abbrev pub joined : ℕ → ℕ → List Run → List Run
joined b at [] = run b at 1 ∷ []
joined b at (r ∷ rs) = cond (eqb b r.task) (run b at (suc r.length) ∷ rs) (run b at 1 ∷ r ∷ rs)

-- the records of answers, the first of which is that of tick `at`
abbrev pub runs_from : ℕ → List ℕ → List Run
runs_from at [] = []
runs_from at (b ∷ xs) = joined b at (runs_from (suc at) xs)

-- the log of a row of answers: neighbouring equal answers make one record, and ticks count from 0
abbrev pub runs : List ℕ → List Run
runs xs = runs_from 0 xs

-- the answers of a log
abbrev pub expand : List Run → List ℕ
expand [] = []
expand (r ∷ rs) = replicate r.length r.task ++ expand rs

-- the sum of its lengths
abbrev pub total : List Run → ℕ
total [] = 0
total (r ∷ rs) = r.length + total rs

-- how many answers at the front of a row are b
abbrev pub lead : ℕ → List ℕ → ℕ
lead b [] = 0
lead b (c ∷ xs) = cond (eqb b c) (suc (lead b xs)) 0
