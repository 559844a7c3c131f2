-- The first unfit record is the first that is unfit by the plain words.
use mathlib.Core.Path.{◌≡◌, ◌∙◌, ap}
use mathlib.Core.Logic.{◌↔◌, ⊎_elim}
use mathlib.Core.Bool.{Bool, true, false, cond, not, ◌||◌}
use mathlib.Core.List.{List}
use Prim.Native.Nat.{ℕ, zero, suc, ◌+◌, ◌≤◌}
use native.Mathlib.Omega.{arith}
use borrow.Author.Tests.{ltb-true, eqb-true}
use lib.Dec.{eqb, ltb}
use lib.ListN.{length, drop, drop_of_length-le}
use lib.Seq.{drop-cons}
use Rattle.numbers.specs.First.{first_from, first}
use Rattle.numbers.specs.Sums.{sum_to}
use Rattle.numbers.proofs.BoolLaws.{true_or_false, or_cases}
use Rattle.numbers.proofs.BoundLaws.{unequal_exactly}
use Rattle.runs.specs.declared.Run.{Run}
use Rattle.runs.specs.Runs.{run}
use Rattle.runs.specs.Fit.{unfit, unfit_from, first_unfit}
use Rattle.runs.specs.Log.{run_at, lengths_before, Unfit, strange, repeated, empty, apart, late}
use Rattle.runs.proofs.FitLaws.{FitAfter, fit_of}

-- the task of the record before number k: none before the first
abbrev task_before : List Run → ℕ → ℕ
task_before log zero = 17
task_before log (suc k) = (run_at log k).task

-- the test of record k
unfoldable pub unfit_at : List Run → ℕ → Bool
unfit_at log k = unfit (task_before log k) (lengths_before log k) (run_at log k)

-- ---- one record after another

-- the sum goes on with the record's length
sum_next : (log : List Run) (k : ℕ) → lengths_before log k + (run_at log k).length ≡ lengths_before log (suc k)
unfolding sum_to
sum_next log k = omega arith

unfit_from_lem : (log : List Run) (n i : ℕ) → i + n ≡ length log
    → unfit_from (suc i) (task_before log i) (lengths_before log i) (drop i log) ≡ first_from (unfit_at log) i n
unfolding first_from unfit_at
unfit_from_lem log zero i e = let past : length log ≤ i = omega (arith, e) in rw (drop_of_length-le log past)
unfit_from_lem log (suc n) i e =
    let one : i + 1 ≡ suc i = omega arith in
    rw (drop-cons log i (run 0 0 0) (omega (arith, e)), one)
    (ap (cond (unfit (task_before log i) (lengths_before log i) (run_at log i)) (suc i))
    (ap (λ (s : ℕ). unfit_from (suc (suc i)) (run_at log i).task s (drop (suc i) log)) (sum_next log i) ∙ unfit_from_lem log n (suc i) (omega (arith, e))))

pub unfit_places : (log : List Run) → first_unfit log ≡ first (unfit_at log) (length log)
unfolding first sum_to
unfit_places log = unfit_from_lem log (length log) 0 (omega arith)

-- ---- what the test says

module _ (log : List Run) where
  same_task : (k : ℕ) → (run_at log k).task ≡ task_before log k → Unfit log k
  same_task zero e = strange {k = 0} (let t : (run_at log 0).task ≡ 17 = e in omega (arith, t))
  same_task (suc k) e = repeated e

  test_says : (k : ℕ) → unfit_at log k ≡ true → Unfit log k
  unfolding unfit_at
  test_says k e =
      let r = run_at log k in
      let sum = lengths_before log k in
      let before = task_before log k in
      ⊎_elim
      (λ (a : ltb 16 r.task ≡ true). strange (ltb-true 16 r.task a))
      (λ (a : (eqb r.task before || (eqb r.length 0 || (not (eqb r.first sum) || ltb 60000 (sum + r.length)))) ≡ true).
      ⊎_elim
      (λ (b : eqb r.task before ≡ true). same_task k (eqb-true r.task before b))
      (λ (b : (eqb r.length 0 || (not (eqb r.first sum) || ltb 60000 (sum + r.length))) ≡ true).
      ⊎_elim
      (λ (c : eqb r.length 0 ≡ true). empty (eqb-true r.length 0 c))
      (λ (c : (not (eqb r.first sum) || ltb 60000 (sum + r.length)) ≡ true).
      ⊎_elim
      (λ (d : not (eqb r.first sum) ≡ true). apart ((unequal_exactly r.first sum).0 d))
      (λ (d : ltb 60000 (sum + r.length) ≡ true). late (ltb-true 60000 (sum + r.length) d))
      (or_cases _ _ c))
      (or_cases _ _ b))
      (or_cases _ _ a))
      (or_cases _ _ e)

  fit_of_at : (k : ℕ) → unfit_at log k ≡ false → FitAfter (task_before log k) (lengths_before log k) (run_at log k)
  unfolding unfit_at
  fit_of_at k e = fit_of (task_before log k) (lengths_before log k) (run_at log k) e

  fit_says : (k : ℕ) → FitAfter (task_before log k) (lengths_before log k) (run_at log k) → Unfit log k → ⊥
  fit_says k f (strange h) = omega (arith, f.low, h)
  fit_says (suc k) f (repeated h) = f.other h
  fit_says k f (empty h) = f.some h
  fit_says k f (apart h) = h f.starts
  fit_says k f (late h) = omega (arith, f.short, h)

  pub unfit_exactly : (k : ℕ) → (unfit_at log k ≡ true) ↔ Unfit log k
  unfit_exactly k = (test_says k, λ (u : Unfit log k). ⊎_elim (λ (e : unfit_at log k ≡ true). e) (λ (e : unfit_at log k ≡ false). absurd (fit_says k (fit_of_at k e) u)) (true_or_false (unfit_at log k)))
