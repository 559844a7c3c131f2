-- The loop over a placement that sums the load of a core, and the test of that load.
use Prim.Native.Nat.{ℕ, ◌+◌, ◌*◌, ◌≤◌, ◌<◌}
use mathlib.Core.Path.{◌≡◌, refl, ◌∙◌}
use mathlib.Core.Bool.{cond}
use mathlib.Core.List.{List}
use native.Mathlib.Omega.{arith}
use native.Mathlib.Numerals.{add-one}
use lib.Dec.{eqb, ltb}
use Rattle.numbers.specs.Rows.{entry}
use Rattle.numbers.specs.Sums.{sum_to}
use Rattle.numbers.proofs.BoolLaws.{cond_le}
use Rattle.refusal.specs.Tests.{refuse_if}
use Rattle.refusal.specs.declared.Cause.TheVariants.{Overload}
use Rattle.refusal.specs.Outcome.{Outcome}
use Rattle.fields.specs.Most.{most_multiple}
use Rattle.taskset.specs.declared.TaskSet.{TaskSet}
use Rattle.taskset.specs.Demands.{demand_of, load_on}
use Rattle.taskset.specs.Promise.{Checked}
use Rattle.taskset.proofs.DemandLaws.{demands_small, hyperperiod_held, demand-held}
use Rattle.loads.specs.Test.{load_test}

-- A loop that adds the demands on a core: those of the tasks before k are added.
pub record Adding (t : TaskSet) (placement : List ℕ) (core sum k : ℕ) : Type 0 where
  pub top : k ≤ t.fields.n
  pub checked : Checked t
  pub is : sum ≡ sum_to (λ j. cond (eqb (entry placement j) core) (demand_of t.fields j) 0) k
  pub bound : sum ≤ k * most_multiple

pub add_start : (t : TaskSet) (placement : List ℕ) (core : ℕ) → Checked t → Adding t placement core 0 0
unfolding sum_to
add_start t placement core d = record { top = omega arith; checked = d; is = refl; bound = omega arith }

module _ {t : TaskSet} {placement : List ℕ} {core sum k : ℕ} (s : Adding t placement core sum k) where
  module _ {byte part : ℕ} (h : k < t.fields.n) (e : byte ≡ entry placement k) (q : part ≡ cond (eqb byte core) (entry t.demands k) 0) where
    part_most : part ≤ most_multiple
    part_most = rw q (cond_le (eqb byte core) (entry t.demands k) most_multiple (demands_small s.checked k h))

    part_is : part ≡ cond (eqb (entry placement k) core) (demand_of t.fields k) 0
    part_is = q ∙ rw (e, demand-held s.checked k h)

    pub add_fits : sum + part < 4294967296
    add_fits = omega (arith, part_most, s.bound, s.checked.within.sizes.tasks.1)

    pub add_next : Adding t placement core (sum + part) (k + 1)
    unfolding sum_to
    add_next = record {
      top = omega arith;
      checked = s.checked;
      is = rw (add-one k) (omega (arith, s.is, part_is));
      bound = omega (arith, part_most, s.bound);
    }

  pub add_done : t.fields.n ≤ k → sum ≡ load_on t.fields placement core
  unfolding load_on
  add_done h = let e : k ≡ t.fields.n = omega (arith, s.top) in rw e at s.is

-- The load is held to the hyperperiod of the fields.
pub load-tested : {t : TaskSet} (placement : List ℕ) (core : ℕ) {load : ℕ} {o : Outcome} → Checked t → load ≡ load_on t.fields placement core
    → o ≡ refuse_if (ltb t.hyperperiod load) Overload → o ≡ load_test t.fields placement core
load-tested placement core c p q = q ∙ rw (p, hyperperiod_held c)
