-- What looking at records in order finds: the first unfit one, or else their total.
use mathlib.Core.Path.{◌≡◌, refl, sym, ◌∙◌, subst}
use mathlib.Core.Bool.{Bool, true, false, not}
use mathlib.Core.List.{List, [], ◌∷◌}
use Prim.Native.Nat.{ℕ, suc, ◌+◌, ◌<◌, ◌≤◌}
use native.Mathlib.Omega.{arith}
use lib.Dec.{eqb}
use lib.ListN.{length, get_or, drop, drop_of_length-le}
use lib.Seq.{drop-cons}
use Rattle.std.specs.Prelude.{Ok, Err}
use Rattle.refusal.specs.Tests.{◌then◌, refuse_if, refuse_at, by_outcome}
use Rattle.refusal.specs.declared.Cause.TheVariants.{Record}
use Rattle.runs.specs.declared.Run.{Run}
use Rattle.runs.specs.Runs.{total}
use Rattle.runs.specs.Fit.{unfit, unfit_from}
use Rattle.runs.specs.Lent.{logged_by}
use Rattle.runs.proofs.FitLaws.{fit_of}
use Rattle.replay.specs.declared.Audit.{Audit}
use Rattle.replay.specs.Tests.{expand_outcome, expand_answer, with_run, audited, audit_of, audit_start, audit_answer}

-- ---- one record

-- which of the two was found, and what that says
pub found_unfit : (a : Audit) (r : Run) {k : ℕ} → Err k ≡ audited a r → (unfit a.before a.sum r ≡ true) × (k ≡ a.seen + 1)
found_unfit a r {k} e = go (unfit a.before a.sum r) refl
  where
    go : (t : Bool) → unfit a.before a.sum r ≡ t → (unfit a.before a.sum r ≡ true) × (k ≡ a.seen + 1)
    go true f = let g = rw f at e in (f, cc)
    go false f = let g = rw f at e in cc

pub found_fit : (a : Audit) (r : Run) {b : Audit} → Ok b ≡ audited a r → (unfit a.before a.sum r ≡ false) × (b ≡ with_run a r)
found_fit a r {b} e = go (unfit a.before a.sum r) refl
  where
    go : (t : Bool) → unfit a.before a.sum r ≡ t → (unfit a.before a.sum r ≡ false) × (b ≡ with_run a r)
    go true f = let g = rw f at e in cc
    go false f = let g = rw f at e in (f, cc)

-- ---- sums stay in range

abbrev pub InRange : Audit → Type 0
InRange a = (a.seen ≤ a.sum) × (a.sum ≤ 60000)

pub range_step : (a : Audit) (r : Run) {b : Audit} → Ok b ≡ audited a r → InRange a → InRange b
range_step a r e s =
    let f = found_fit a r e in
    let fit = fit_of a.before a.sum r f.0 in
    let n : r.length ≡ 0 → ⊥ = fit.some in
    subst InRange (sym f.1) (omega (arith, n, s.0), fit.short)

-- ---- one record after another

module _ (rs : List Run) (k : ℕ) (d : Run) (a : Audit) (h : k < length rs) where
  pub audit_step : {b : Audit} → Ok b ≡ audited a (get_or rs k d) → audit_of b (drop (k + 1) rs) ≡ audit_of a (drop k rs)
  audit_step {b} e =
      let f = found_fit a (get_or rs k d) e in
      let one : k + 1 ≡ suc k = omega arith in
      rw (one, drop-cons rs k d h, f.0, f.1)

  pub audit_stop : {n : ℕ} → Err n ≡ audited a (get_or rs k d) → Err n ≡ audit_of a (drop k rs)
  audit_stop {n} e = let f = found_unfit a (get_or rs k d) e in rw (drop-cons rs k d h, f.0, f.1)

pub audit_end : (rs : List Run) (k : ℕ) (a : Audit) → length rs ≤ k → Ok a ≡ audit_of a (drop k rs)
audit_end rs k a h = rw (drop_of_length-le rs h)

-- ---- the answer

-- what is answered by what was found is what is due
answered : (rs : List Run) (a : Audit) (room : ℕ) → audit_answer (audit_of a rs) room ≡ logged_by (refuse_at (unfit_from (suc a.seen) a.before a.sum rs) Record then refuse_if (not (eqb (a.sum + total rs) room)) (Record 0)) (a.sum + total rs)
unfolding ◌then◌ refuse_at logged_by by_outcome
answered [] a room = let z : a.sum + 0 ≡ a.sum = omega arith in rw z
answered (r ∷ rs) a room = go (unfit a.before a.sum r) refl (answered rs (with_run a r) room)
  where
    go : (t : Bool) → unfit a.before a.sum r ≡ t → audit_answer (audit_of (with_run a r) rs) room ≡ logged_by (refuse_at (unfit_from (suc (a.seen + 1)) r.task (a.sum + r.length) rs) Record then refuse_if (not (eqb (a.sum + r.length + total rs) room)) (Record 0)) (a.sum + r.length + total rs)
        → audit_answer (audit_of a (r ∷ rs)) room ≡ logged_by (refuse_at (unfit_from (suc a.seen) a.before a.sum (r ∷ rs)) Record then refuse_if (not (eqb (a.sum + total (r ∷ rs)) room)) (Record 0)) (a.sum + total (r ∷ rs))
    go true e ih = let one : a.seen + 1 ≡ suc a.seen = omega arith in rw (e, one)
    go false e ih =
        let one : a.seen + 1 ≡ suc a.seen = omega arith in
        let sum : a.sum + r.length + total rs ≡ a.sum + (r.length + total rs) = omega arith in rw e (rw sum at ih ∙ rw one)

pub audit_answers : (rs : List Run) (room : ℕ) → audit_answer (audit_of audit_start rs) room ≡ expand_answer rs room
unfolding expand_answer expand_outcome
audit_answers rs room = let z : 0 + total rs ≡ total rs = omega arith in rw z at (answered rs audit_start room)
