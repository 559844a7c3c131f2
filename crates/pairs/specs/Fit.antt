-- A dependency list in plain statements: what is well formed, which pairs fit, who feeds whom; and its refusals.
use Rattle.std.specs.Prelude.{ℕ, pred, ◌+◌, ◌*◌, ◌≤◌, ◌<◌, ◌≡◌, List, ◌⊎◌, ◌≢◌, length, get_or}
use Rattle.std.specs.Int.{◌∣◌}
use Rattle.refusal.specs.Conditions.{Condition, only, at}
use Rattle.precedence.specs.Paths.{Task}

-- A count of at most 64, and as many bytes as its pairs have.
pub record WellFormed (list : List ℕ) : Type 0 where
  pub some : 1 ≤ length list
  pub few : get_or list 0 0 ≤ 64
  pub exact : length list ≡ 1 + 2 * get_or list 0 0

-- a feeds b: for some i below k, entry 1 + i of the list is a and entry 1 + k + i is b
abbrev pub Feeds : List ℕ → ℕ → ℕ → Type 0
Feeds list a b = (i : ℕ) × (i < get_or list 0 0) × (get_or list (1 + i) 0 ≡ a) × (get_or list (1 + get_or list 0 0 + i) 0 ≡ b)

-- Two of n tasks, not the same, whose periods are equal or one a multiple of the other.
pub record Fit (n : ℕ) (periods : List ℕ) (a b : ℕ) : Type 0 where
  pub feeding : Task n a
  pub fed : Task n b
  pub apart : a ≢ b
  pub harmonic : (get_or periods (pred a) 0 ≡ get_or periods (pred b) 0)
      ⊎ ((get_or periods (pred a) 0 ∣ get_or periods (pred b) 0) ⊎ (get_or periods (pred b) 0 ∣ get_or periods (pred a) 0))

-- pair i, counted from 0, is of such tasks
abbrev pub PairFits : ℕ → List ℕ → List ℕ → ℕ → Type 0
PairFits n periods list i = Fit n periods (get_or list (1 + i) 0) (get_or list (1 + get_or list 0 0 + i) 0)

-- number 19: there are no bytes, k is above 64, or the length is not 1 + 2 times k
abbrev pub list_unformed : List ℕ → Condition
list_unformed list = only 19 ((length list ≡ 0) ⊎ ((64 < get_or list 0 0) ⊎ (length list ≢ 1 + 2 * get_or list 0 0)))

-- number 20: a pair holds a number that is no task's, names one task twice, or has periods that do not fit
abbrev pub pair_unfit : ℕ → List ℕ → List ℕ → Condition
pair_unfit n periods list = at 20 (λ i. PairFits n periods list i → ⊥) (get_or list 0 0)
