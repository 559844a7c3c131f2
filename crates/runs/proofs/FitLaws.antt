-- Which records are fit: the causes one by one, and the runs of answers up to 16.
use mathlib.Core.Path.{◌≡◌, refl, sym, ◌∙◌, ap}
use mathlib.Core.Bool.{Bool, true, false, not, ◌||◌}
use mathlib.Core.List.{List, [], ◌∷◌}
use Prim.Native.Nat.{ℕ, suc, ◌+◌, ◌≤◌}
use native.Mathlib.Omega.{arith}
use borrow.Author.Tests.{not-false, ltb-false, eqb-true, eqb-false, le-ltb, eq-eqb, ne_eqb}
use lib.Dec.{eqb, ltb}
use lib.ListN.{length, drop}
use Rattle.numbers.proofs.BoolLaws.{or_false_left, or_false_right}
use Rattle.runs.specs.declared.Run.{Run}
use Rattle.runs.specs.Runs.{run, joined, runs_from, runs, lead}
use Rattle.runs.specs.Fit.{unfit, unfit_from, first_unfit}
use Rattle.runs.proofs.RunLaws.{runs_lead, lead_le, joined_same, joined-other}

-- ---- one record

module _ (before sum : ℕ) (r : Run) where
  pub fit_is : r.task ≤ 16 → (r.task ≡ before → ⊥) → (r.length ≡ 0 → ⊥) → r.first ≡ sum → sum + r.length ≤ 60000 → unfit before sum r ≡ false
  fit_is a b c d e = rw (le-ltb 16 r.task a, ne_eqb r.task before b, ne_eqb r.length 0 c, eq-eqb r.first sum d, le-ltb 60000 (sum + r.length) e)

-- A fit record, by its numbers.
pub record FitAfter (before sum : ℕ) (r : Run) : Type 0 where
  pub low : r.task ≤ 16
  pub other : r.task ≡ before → ⊥
  pub some : r.length ≡ 0 → ⊥
  pub starts : r.first ≡ sum
  pub short : sum + r.length ≤ 60000

pub fit_of : (before sum : ℕ) (r : Run) → unfit before sum r ≡ false → FitAfter before sum r
fit_of before sum r h =
    let h1 = or_false_right (ltb 16 r.task) (eqb r.task before || (eqb r.length 0 || (not (eqb r.first sum) || ltb 60000 (sum + r.length)))) h in
    let h2 = or_false_right (eqb r.task before) (eqb r.length 0 || (not (eqb r.first sum) || ltb 60000 (sum + r.length))) h1 in
    let h3 = or_false_right (eqb r.length 0) (not (eqb r.first sum) || ltb 60000 (sum + r.length)) h2 in
    record {
      low = ltb-false 16 r.task (or_false_left (ltb 16 r.task) _ h);
      other = eqb-false r.task before (or_false_left (eqb r.task before) _ h1);
      some = eqb-false r.length 0 (or_false_left (eqb r.length 0) _ h2);
      starts = eqb-true r.first sum (not-false (eqb r.first sum) (or_false_left (not (eqb r.first sum)) _ h3));
      short = ltb-false 60000 (sum + r.length) (or_false_right (not (eqb r.first sum)) (ltb 60000 (sum + r.length)) h3);
    }

-- ---- one record after another

pub step_fit : (p before sum : ℕ) (r : Run) (rs : List Run) → unfit before sum r ≡ false → unfit_from p before sum (r ∷ rs) ≡ unfit_from (suc p) r.task (sum + r.length) rs
step_fit p before sum r rs e = rw e

-- where none is unfit the first is fit, and none of the others is unfit
pub head_fit : (p before sum : ℕ) (r : Run) (rs : List Run) → unfit_from (suc p) before sum (r ∷ rs) ≡ 0
    → (unfit before sum r ≡ false) × (unfit_from (suc (suc p)) r.task (sum + r.length) rs ≡ 0)
head_fit p before sum r rs h = go (unfit before sum r) refl h
  where
    go : (t : Bool) → unfit before sum r ≡ t → unfit_from (suc p) before sum (r ∷ rs) ≡ 0 → (unfit before sum r ≡ false) × (unfit_from (suc (suc p)) r.task (sum + r.length) rs ≡ 0)
    go true e h = absurd (let z : suc p ≡ 0 = rw e at h in omega (arith, z))
    go false e h = (e, rw e at h)

-- ---- the runs of answers up to 16

-- no answer is above 16
abbrev pub AllLow : List ℕ → Type 0
AllLow [] = Unit {0}
AllLow (b ∷ xs) = (b ≤ 16) × AllLow xs

-- a fit record made longer at its front
longer_fit : (b c at p before l : ℕ) (R : List Run) → b ≡ c → b ≤ 16 → (b ≡ before → ⊥) → at + suc (suc l) ≤ 60000
    → unfit_from (suc p) 17 (suc at) (run c (suc at) (suc l) ∷ R) ≡ 0 → unfit_from (suc p) before at (run b at (suc (suc l)) ∷ R) ≡ 0
longer_fit b c at p before l R same low n fits h =
    let sums : at + suc (suc l) ≡ suc at + suc l = omega arith in
    step_fit (suc p) before at (run b at (suc (suc l))) R (fit_is before at (run b at (suc (suc l))) low n (omega arith) refl fits) ∙ rw (sums, same) (head_fit p 17 (suc at) (run c (suc at) (suc l)) R h).1

-- the runs of such answers, if they end by 60,000, are fit after any record of another task
runs_fit : (b at : ℕ) (xs : List ℕ) (p before : ℕ) → AllLow (b ∷ xs) → (b ≡ before → ⊥) → at + suc (length xs) ≤ 60000
    → unfit_from (suc p) before at (runs_from at (b ∷ xs)) ≡ 0
runs_fit b at [] p before low n fits = step_fit (suc p) before at (run b at 1) [] (fit_is before at (run b at 1) low.0 n (omega arith) refl (omega (arith, fits)))
runs_fit b at (c ∷ xs) p before low n fits =
    go (eqb b c) refl (runs_fit c (suc at) xs p 17 low.1 (λ (e : c ≡ 17). let h : c ≤ 16 = low.1.0 in omega (arith, e, h)) (omega (arith, fits)))
    (λ m. runs_fit c (suc at) xs (suc p) b low.1 m (omega (arith, fits)))
  where
    after : List Run
    after = runs_from (suc (suc at) + lead c xs) (drop (lead c xs) xs)

    rest : runs_from (suc at) (c ∷ xs) ≡ run c (suc at) (suc (lead c xs)) ∷ after
    rest = runs_lead c (suc at) xs

    go : (t : Bool) → eqb b c ≡ t → unfit_from (suc p) 17 (suc at) (runs_from (suc at) (c ∷ xs)) ≡ 0
        → ((c ≡ b → ⊥) → unfit_from (suc (suc p)) b (suc at) (runs_from (suc at) (c ∷ xs)) ≡ 0) → unfit_from (suc p) before at (runs_from at (b ∷ c ∷ xs)) ≡ 0
    go true e ih jh =
        let k = lead_le c xs in
        ap (λ (rs : List Run). unfit_from (suc p) before at (joined b at rs)) rest
        ∙ ap (unfit_from (suc p) before at) (joined_same b at (run c (suc at) (suc (lead c xs))) after (eqb-true b c e))
        ∙ longer_fit b c at p before (lead c xs) after (eqb-true b c e) low.0 n (omega (arith, fits, k)) (ap (unfit_from (suc p) 17 (suc at)) (sym rest) ∙ ih)
    go false e ih jh =
        let one : at + 1 ≡ suc at = omega arith in
        ap (λ (rs : List Run). unfit_from (suc p) before at (joined b at rs)) rest
        ∙ ap (unfit_from (suc p) before at) (joined-other b at (run c (suc at) (suc (lead c xs))) after (eqb-false b c e))
        ∙ step_fit (suc p) before at (run b at 1) (run c (suc at) (suc (lead c xs)) ∷ after) (fit_is before at (run b at 1) low.0 n (omega arith) refl (omega (arith, fits)))
        ∙ ap (λ (m : ℕ). unfit_from (suc (suc p)) b m (run c (suc at) (suc (lead c xs)) ∷ after)) one
        ∙ ap (unfit_from (suc (suc p)) b (suc at)) (sym rest) ∙ jh (λ (m : c ≡ b). eqb-false b c e (sym m))

pub runs-all_fit : (xs : List ℕ) → AllLow xs → length xs ≤ 60000 → first_unfit (runs xs) ≡ 0
runs-all_fit [] low fits = refl
runs-all_fit (b ∷ xs) low fits = runs_fit b 0 xs 0 17 low (λ (e : b ≡ 17). let l : b ≤ 16 = low.0 in omega (arith, e, l)) (omega (arith, fits))
