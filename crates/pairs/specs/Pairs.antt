-- A dependency list: a count k, then k feeding task numbers, then k fed ones, a byte each. Pairs are counted from 0 here.
use Rattle.std.specs.Prelude.{ℕ, zero, suc, ◌+◌, ◌*◌, ◌%◌, Bool, false, not, ◌&&◌, ◌||◌, List, eqb, ltb, length, get_or}
use Rattle.numbers.specs.Bounds.{outside}
use Rattle.numbers.specs.Rows.{entry}
use Rattle.refusal.specs.Tests.{refuse_if}
use Rattle.refusal.specs.declared.Cause.TheVariants.{PairList}
use Rattle.refusal.specs.Outcome.{Outcome}

-- byte 0: how many pairs there are
abbrev pub pair_count : List ℕ → ℕ
pair_count list = get_or list 0 0

-- the most
abbrev pub most_pairs : ℕ
most_pairs = 64

-- of pair i, the task that feeds and the task that is fed
unfoldable pub feeding : List ℕ → ℕ → ℕ
feeding list i = get_or list (1 + i) 0

unfoldable pub fed : List ℕ → ℕ → ℕ
fed list i = get_or list (1 + pair_count list + i) 0

-- number 19: no bytes, too many pairs, or another length than that of the pairs
unfoldable pub malformed : List ℕ → Bool
malformed list = (eqb (length list) 0 || ltb most_pairs (pair_count list)) || not (eqb (length list) (1 + 2 * pair_count list))

abbrev pub list_test : List ℕ → Outcome
list_test list = refuse_if (malformed list) PairList

-- p is a multiple of q
unfoldable pub multiple : ℕ → ℕ → Bool
multiple p q = eqb (p % q) 0

-- the period of task t; 0 if there is none
unfoldable pub period_of : List ℕ → ℕ → ℕ
period_of periods zero = 0
period_of periods (suc k) = entry periods k

-- periods of which one is a multiple of the other; equal ones are too
abbrev pub harmonic : ℕ → ℕ → Bool
harmonic p q = multiple p q || multiple q p

-- a and b are no pair of n tasks with these periods: a number is no task's, one task is named twice, or the periods are not harmonic
unfoldable pub unfit : ℕ → List ℕ → ℕ → ℕ → Bool
unfit n periods a b = ((outside 1 n a || outside 1 n b) || eqb a b) || not (harmonic (period_of periods a) (period_of periods b))

-- one of the first i pairs says that a feeds b
unfoldable pub said_by : List ℕ → ℕ → ℕ → ℕ → Bool
said_by list zero a b = false
said_by list (suc i) a b = said_by list i a b || (eqb (feeding list i) a && eqb (fed list i) b)

-- a feeds b: one of the pairs says so
unfoldable pub feeds : List ℕ → ℕ → ℕ → Bool
feeds list = said_by list (pair_count list)
