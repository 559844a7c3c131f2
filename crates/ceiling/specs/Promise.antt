-- What is promised of the step ceiling, in the table's terms.
use Rattle.std.specs.Prelude.{ℕ, pred, ◌+◌, ◌≤◌, min, ◌≡◌, cond, List, [], ◌∷◌, ◌⊎◌, ◌≢◌, length}
use Rattle.numbers.specs.Rows.{entry}
use Rattle.numbers.specs.Sums.{sum_from_one, product_from_one}
use Rattle.affinity.specs.Permitted.{permitted}
use Rattle.refusal.specs.Causes.{number_in}
use Rattle.fields.specs.Fields.{affinity_at, Free, Tied}
use Rattle.fields.specs.declared.Fields.{Fields}
use Rattle.taskset.specs.Table.{Table}
use Rattle.planning.specs.Problem.{order_of}
use Rattle.plans.specs.Safe.{StatedOrder}
use Rattle.planner.specs.Plan.{plan_of}
use Rattle.planner.specs.Promise.{walk_of}
use Rattle.planner.specs.declared.Verdict.TheVariants.{Spent}
use Rattle.ceiling.specs.declared.StepCeiling.{StepCeiling}

-- how many cores the jth task in planning order permits
abbrev pub permitted_to : Fields → ℕ → ℕ
permitted_to f j = sum_from_one (λ core. cond (permitted (affinity_at f (entry (order_of f) (pred j))) core) 1 0) f.m

-- What is promised of a valid table's ceiling x.
pub record Ceils (f : Fields) (x : ℕ) : Type 0 where
  -- Where every task permits every core, it is the sum, over k from 1 to n, of the product over j from 1 to k of
  -- (the smaller of j and m, plus 1).
  pub free : Free f → x ≡ sum_from_one (λ k. product_from_one (λ j. min j f.m + 1) k) f.n
  -- Where some task does not, the factor for j is how many cores the jth task in planning order permits, plus 1.
  pub tied : Tied f → x ≡ sum_from_one (λ k. product_from_one (λ j. permitted_to f j + 1) k) f.n
  -- That order takes the tasks by falling demand, equal demands by shorter period, then by lower number; each task once.
  pub ordered : StatedOrder f
  -- The steps of the complete walk never exceed it.
  pub steps : length (walk_of f) ≤ x

-- What is promised of the answer for a table.
pub record Promise (t : Table) (r : StepCeiling) : Type 0 where
  pub valid : t.Valid → Ceils t.fields r.ceiling
  -- The exact planner with a limit at or above it is never spent.
  pub unspent : (limit : ℕ) → r.ceiling ≤ limit → (plan_of t limit).verdict ≢ Spent
  -- A refused table's is 0.
  pub refused : number_in r.outcome ≢ 0 → r.ceiling ≡ 0

-- where every core is permitted, the ceiling of n tasks on m cores
abbrev pub free_ceiling : ℕ → ℕ → ℕ
free_ceiling m n = sum_from_one (λ k. product_from_one (λ j. min j m + 1) k) n

-- those of 4, 8, 12 and 16 tasks
abbrev pub four_ceilings : ℕ → List ℕ
four_ceilings m = free_ceiling m 4 ∷ free_ceiling m 8 ∷ free_ceiling m 12 ∷ free_ceiling m 16 ∷ []

-- Worked out: the numbers of the table in docs/CALLING.md, by the number of cores.
pub record Worked : Type 0 where
  pub one : four_ceilings 1 ≡ 30 ∷ 510 ∷ 8190 ∷ 131070 ∷ []
  pub two : four_ceilings 2 ≡ 80 ∷ 6560 ∷ 531440 ∷ 43046720 ∷ []
  pub three : four_ceilings 3 ≡ 128 ∷ 32768 ∷ 8388608 ∷ 2147483648 ∷ []
  pub four : four_ceilings 4 ≡ 152 ∷ 93752 ∷ 58593752 ∷ 36621093752 ∷ []

-- A table of so few tasks for its cores that 1,000,000 steps always suffice where every core is permitted.
abbrev pub Few : Fields → Type 0
Few f = (f.m ≡ 1) ⊎ ((f.m ≡ 2) × (f.n ≤ 12)) ⊎ ((f.m ≡ 3) × (f.n ≤ 10)) ⊎ ((f.m ≡ 4) × (f.n ≤ 9))
