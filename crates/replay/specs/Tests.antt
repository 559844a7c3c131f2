-- Expanding a log: its tests in order, its answer, and every byte of the row that was lent; then how the calls find these out.
use Rattle.std.specs.Prelude.{ℕ, ◌+◌, cond, not, ◌&&◌, Result, Ok, Err, List, [], ◌∷◌, ◌++◌, eqb, leb, length, take, drop, replicate}
use Rattle.refusal.specs.Tests.{◌then◌, refuse_if, refuse_at, by_outcome}
use Rattle.refusal.specs.declared.Cause.TheVariants.{Record}
use Rattle.refusal.specs.Outcome.{Outcome}
use Rattle.runs.specs.declared.Run.{Run}
use Rattle.runs.specs.declared.Logged.{Logged}
use Rattle.runs.specs.Runs.{expand, total}
use Rattle.runs.specs.Fit.{unfit, first_unfit}
use Rattle.runs.specs.Lent.{logged_by, exit_by}
use Rattle.replay.specs.declared.Audit.{Audit}

-- number 25: a record is unfit, or else the row's length is not the total
unfoldable pub expand_outcome : List Run → ℕ → Outcome
expand_outcome records room = refuse_at (first_unfit records) Record then refuse_if (not (eqb (total records) room)) (Record 0)

-- the answer: how many answers there are, or 0 beside a refusal
unfoldable pub expand_answer : List Run → ℕ → Logged
expand_answer records room = logged_by (expand_outcome records room) (total records)

-- every byte of the row at exit: the answers, or all as it was
unfoldable pub row_after : List Run → List ℕ → List ℕ
row_after records bytes = exit_by bytes (expand_outcome records (length bytes)) (expand records)

-- what looking at records finds: nothing to begin with,
abbrev pub audit_start : Audit
audit_start = record { before = 17; sum = 0; seen = 0 }

-- then what a fit record adds,
abbrev pub with_run : Audit → Run → Audit
with_run a r = record { before = r.task; sum = a.sum + r.length; seen = a.seen + 1 }

-- one record after another, until one is unfit: its number, counted from 1
abbrev pub audited : Audit → Run → Result Audit ℕ
audited a r = cond (unfit a.before a.sum r) (Err (a.seen + 1)) (Ok (with_run a r))

abbrev pub audit_of : Audit → List Run → Result Audit ℕ
audit_of a [] = Ok a
audit_of a (r ∷ rs) = cond (unfit a.before a.sum r) (Err (a.seen + 1)) (audit_of (with_run a r) rs)

-- the answer by what was found
abbrev pub audit_answer : Result Audit ℕ → ℕ → Logged
audit_answer (Ok a) room = logged_by (refuse_if (not (eqb a.sum room)) (Record 0)) a.sum
audit_answer (Err place) room = logged_by (Err (Record place)) 0

-- how many of n records are expanded: all or none
unfoldable pub to_paint : Logged → ℕ → ℕ
to_paint answer n = by_outcome (λ cause. 0) (λ m. m) answer.outcome n

-- a row with the ticks of one record filled in, if its task is one and they lie in the row
unfoldable pub painted : List ℕ → Run → List ℕ
painted row r =
    cond (leb r.task 16 && leb (r.first + r.length) (length row))
    (take r.first row ++ (replicate r.length r.task ++ drop (r.first + r.length) row)) row

abbrev pub painted_all : List Run → List ℕ → List ℕ
painted_all [] row = row
painted_all (r ∷ rs) row = painted_all rs (painted row r)
