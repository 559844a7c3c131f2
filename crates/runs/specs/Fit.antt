-- Which record is unfit.
use Rattle.std.specs.Prelude.{ℕ, suc, ◌+◌, Bool, cond, not, ◌||◌, List, [], ◌∷◌, eqb, ltb}
use Rattle.runs.specs.declared.Run.{Run}

-- A record that cannot stand after one of the task `before` and lengths that add up to `sum`: its task is above 16 or the same as the
-- one before, its length is 0, its first tick is not the sum of the lengths before it, or the sum with its own length is above 60,000.
abbrev pub unfit : ℕ → ℕ → Run → Bool
unfit before sum r =
    ltb 16 r.task || (eqb r.task before || (eqb r.length 0 || (not (eqb r.first sum) || ltb 60000 (sum + r.length))))

-- the first unfit record of those from number `place` on, by its number; 0 if there is none
abbrev pub unfit_from : ℕ → ℕ → ℕ → List Run → ℕ
unfit_from place before sum [] = 0
unfit_from place before sum (r ∷ rs) = cond (unfit before sum r) place (unfit_from (suc place) r.task (sum + r.length) rs)

-- the first unfit record of a log, counted from 1; 0 if there is none. Before the first there is none: 17 is no task's number.
abbrev pub first_unfit : List Run → ℕ
first_unfit rs = unfit_from 1 17 0 rs
