-- The tests of fields, and their bytes, depend on the first n entries alone.
use Rattle.std.specs.Prelude.{Ok}
use Prim.Native.Nat.{ℕ, ◌+◌, ◌≤◌, ◌<◌}
use mathlib.Core.Path.{◌≡◌, refl, sym, ◌∙◌, ap}
use mathlib.Core.Bool.{Bool}
use mathlib.Core.List.{List}
use lib.ListN.{length, get_or, take}
use lib.Dec.{ltb}
use lib.Seq.{get_or-take}
use native.Mathlib.Omega.{arith}
use Rattle.numbers.specs.First.{first}
use Rattle.numbers.proofs.FirstLaws.{first_cong}
use Rattle.numbers.proofs.MultipleLaws.{lcms_cong}
use Rattle.numbers.proofs.RowLaws.{get_or-row, by_entries}
use Rattle.wire.proofs.WriteBackLaws.{front_long}
use Rattle.refusal.proofs.ConditionLaws.{decides, accepts}
use Rattle.fields.specs.Most.{most_tasks, most_multiple}
use Rattle.fields.specs.Fields.{period_at, budget_at, affinity_at, cut, Alike}
use Rattle.fields.specs.Hyperperiod.{multiple_to}
use Rattle.fields.specs.Tests.{bad_period, bad_budget, bad_cost, bad_affinity, exceeds, fields_outcome}
use Rattle.fields.specs.Limits.{Within}
use Rattle.fields.specs.declared.Fields.{Fields}
use Rattle.fields.proofs.LimitLaws.{fields-tested, periods_there, budgets_there, affinity_there}
use Rattle.newform.specs.Form.{new_bytes}
use Rattle.transfer.specs.Tables.{counted}

-- fields that the tests accept are within the limits
pub tested_within : (f : Fields) → fields_outcome f ≡ Ok tt → Within f
tested_within f q = (accepts (decides (fields-tested f))).0 q

-- rows that are equal up to n have the same front
front_same : (n : ℕ) (xs ys : List ℕ) → n ≤ length xs → n ≤ length ys → ((k : ℕ) → k < n → get_or xs k 0 ≡ get_or ys k 0) → take n xs ≡ take n ys
front_same n xs ys p q h =
    by_entries 0 (front_long xs p) (front_long ys q)
    (λ k b. get_or-take n xs k 0 b ∙ h k b ∙ sym (get_or-take n ys k 0 b))

module _ (f g : Fields) (a : Alike f g) where
  -- the first task at which a test holds is the same
  same_first : (p q : ℕ → Bool) → ((k : ℕ) → k < f.n → p k ≡ q k) → first p f.n ≡ first q g.n
  same_first p q h = first_cong p q f.n h ∙ ap (first q) a.tasks

  same-period : first (bad_period (counted f)) f.n ≡ first (bad_period (counted g)) g.n
  unfolding bad_period
  same-period = same_first _ _ (λ k h. rw (a.periods k h))

  same-budget : first (bad_budget (counted f)) f.n ≡ first (bad_budget (counted g)) g.n
  unfolding bad_budget
  same-budget = same_first _ _ (λ k h. rw (a.periods k h, a.budgets k h))

  same-cost : first (bad_cost (counted f)) f.n ≡ first (bad_cost (counted g)) g.n
  unfolding bad_cost
  same-cost = same_first _ _ (λ k h. rw (a.periods k h, a.budgets k h, a.charge))

  same_affinity : first (bad_affinity (counted f)) f.n ≡ first (bad_affinity (counted g)) g.n
  unfolding bad_affinity
  same_affinity = same_first _ _ (λ k h. rw (a.affinity k h, a.cores))

  same-multiple : first (exceeds (counted f)) f.n ≡ first (exceeds (counted g)) g.n
  unfolding exceeds multiple_to
  same-multiple = same_first _ _ (λ k h. ap (ltb most_multiple) (lcms_cong (period_at f) (period_at g) (k + 1) (λ j b. a.periods j (omega arith))))

  pub outcome_alike : fields_outcome (counted f) ≡ fields_outcome (counted g)
  unfolding fields_outcome
  outcome_alike = rw (same-period, same-budget, same-cost, same_affinity, same-multiple, a.tasks, a.cores, a.charge)

  -- so are the bytes of fields that are accepted
  pub bytes_alike : Within (counted f) → Within (counted g) → new_bytes f ≡ new_bytes g
  unfolding new_bytes
  bytes_alike v w =
      let e = a.tasks in
      let P = front_same f.n f.periods g.periods (periods_there (counted f) v) (rw e (periods_there (counted g) w)) a.periods in
      let B = front_same f.n f.budgets g.budgets (budgets_there (counted f) v) (rw e (budgets_there (counted g) w)) a.budgets in
      let A = front_same f.n f.affinity g.affinity (affinity_there (counted f) v) (rw e (affinity_there (counted g) w)) a.affinity in
      rw (P, B, A, e, a.cores, a.charge)

-- Fields are equal up to n to themselves cut at n, so these are within the limits too.
cut-alike : (f : Fields) → f.n ≤ most_tasks → Alike f (cut f)
unfolding cut
cut-alike f few = record {
  tasks = refl;
  cores = refl;
  charge = refl;
  periods = λ k h. sym (get_or-row 0 f.n (period_at f) k h few);
  budgets = λ k h. sym (get_or-row 0 f.n (budget_at f) k h few);
  affinity = λ k h. sym (get_or-row 0 f.n (affinity_at f) k h few);
}

pub within_cut : (f : Fields) → Within (counted f) → Within (cut f)
unfolding cut
within_cut f w =
    tested_within (cut f)
    (sym (outcome_alike f (cut f) (cut-alike f w.sizes.tasks.1)) ∙ (accepts (decides (fields-tested (counted f)))).1 w)
