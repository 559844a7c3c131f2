-- What a reading says, by the outcome of the tests that it goes by.
use Rattle.std.specs.Prelude.{Ok, Err}
use Prim.Native.Nat.{◌≤◌}
use mathlib.Core.Path.{◌≡◌, refl, sym, ◌∙◌, ap}
use mathlib.Core.Logic.{⊎_elim}
use native.Mathlib.Omega.{arith}
use Rattle.refusal.specs.Causes.{number_in}
use Rattle.refusal.specs.Tests.{◌then◌, in_order, by_outcome}
use Rattle.refusal.specs.declared.Cause.{Cause}
use Rattle.refusal.specs.Outcome.{Outcome}
use Rattle.refusal.proofs.CauseLaws.{number_range}
use Rattle.refusal.proofs.TestLaws.{accepted≢refused, outcome_cases, then_accepted, then_first, then_refused, by_says}
use Rattle.refusal.proofs.TestLaws as tests
use Rattle.fields.specs.Tests.{size_tests, limit_tests}
use Rattle.taskset.specs.Reading.{task_set_of, no_tasks, refused_reading, accepted_reading, reading_by}
use Rattle.fields.specs.Limits.{Sized, Within}
use Rattle.taskset.specs.Promise.{Checked, Reads}
use Rattle.fields.specs.declared.Fields.{Fields}
use Rattle.taskset.specs.declared.Reading.{Reading}
use Rattle.taskset.proofs.DemandLaws.{task_set_exact}
use Rattle.fields.proofs.LimitLaws.{sizes_reported, sizes_kept, limits_reported, limits_kept}

-- the answer's outcome is that of the tests
pub reading_outcome : (o : Outcome) (f : Fields) → (reading_by o f).outcome ≡ o
unfolding reading_by refused_reading accepted_reading
reading_outcome o f = by_says refused_reading accepted_reading (λ r. r.outcome) (λ c. refl) (λ x. refl) o f

-- What a reading promises, where the tests accept only fields within the limits.
module _ (f : Fields) where
  pub reading_promised : (o : Outcome) → (o ≡ Ok tt → Within f) → Reads (reading_by o f)
  unfolding reading_by by_outcome refused_reading accepted_reading task_set_of no_tasks
  reading_promised (Ok _) w = record {
    checked = λ e. record { within = w refl; is = refl };
    exact = λ e. task_set_exact (w refl);
    refused = λ n. absurd (n refl);
  }
  reading_promised (Err c) w = record {
    checked = λ e. absurd (accepted≢refused e refl);
    exact = λ e. absurd (accepted≢refused e refl);
    refused = λ n. record { tasks = refl; cores = refl; charge = refl; periods = refl; budgets = refl; affinity = refl; given = refl; hyperperiod = refl; demands = refl };
  }

-- What is promised of an accepted reading: a checked task set, of at most sixteen tasks.
module _ {r : Reading} {o : Outcome} (p : Reads r) (e : r.outcome ≡ o) (q : o ≡ Ok tt) where
  pub reading_checked : Checked r.tasks
  reading_checked = p.checked (e ∙ q)

  pub reading_few : r.tasks.fields.n ≤ 16
  reading_few = (p.checked (e ∙ q)).within.sizes.tasks.1

-- a reading has at most sixteen tasks: none if it is refused
pub reads_few : (r : Reading) → Reads r → r.tasks.fields.n ≤ 16
reads_few r s =
    ⊎_elim
    (λ e. (s.checked e).within.sizes.tasks.1)
    (λ e. omega (arith, (s.refused (λ z. omega (arith, number_range e.0, ap number_in e.1, z))).tasks))
    (outcome_cases r.outcome)

-- ---- the steps of the programs

module _ (f : Fields) where
  pub limits_say : {o : Outcome} → Sized f → o ≡ in_order (limit_tests f) → o ≡ Ok tt → Within f
  limits_say z p q = limits_kept f z ((limits_reported f).accepted (sym p ∙ q))

  pub sizes_say : {o : Outcome} → o ≡ in_order (size_tests f) → o ≡ Ok tt → Sized f
  sizes_say p q = (sizes_kept f).0 ((sizes_reported f).accepted (sym p ∙ q))

  pub by_refused : {o p : Outcome} {c : Cause} {r : Reading} → r ≡ refused_reading c → o ≡ p → o ≡ Err c → r ≡ reading_by p f
  unfolding reading_by
  by_refused e p q = e ∙ sym (tests.by_refused _ _ f (sym p ∙ q))

  pub by_accepted : {o p : Outcome} {r : Reading} → r ≡ accepted_reading f → o ≡ p → o ≡ Ok tt → r ≡ reading_by p f
  unfolding reading_by
  by_accepted e p q = e ∙ sym (tests.by_accepted _ _ f (sym p ∙ q))

  -- tests made before those of the limits
  pub after_refused : (p : Outcome) {o : Outcome} {c : Cause} {r : Reading} → r ≡ refused_reading c → o ≡ Err c → r ≡ reading_by (o then p) f
  after_refused p {o} {c} e q = by_refused e refl (then_refused o p c q)

  pub after_accepted : (p : Outcome) {o : Outcome} {r : Reading} → r ≡ reading_by p f → o ≡ Ok tt → r ≡ reading_by (o then p) f
  after_accepted p {o} e q = e ∙ ap (λ x. reading_by x f) (sym (then_first o p q))

-- tests made behind those of a reading
pub behind_accepted : (r : Reading) → Reads r → (t : Outcome) {o : Outcome} → o ≡ r.outcome then t → o ≡ Ok tt → r ≡ reading_by (r.outcome then t) r.tasks.fields
unfolding reading_by accepted_reading
behind_accepted r s t p q =
    let a = (then_accepted r.outcome t (sym p ∙ q)).0 in
    (λ i. record { outcome = a i; tasks = (s.checked a).is i }) ∙ sym (tests.by_accepted refused_reading accepted_reading r.tasks.fields (sym p ∙ q))
