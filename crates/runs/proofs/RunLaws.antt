-- Laws of runs: where the first run ends, what expands to what, how many there are.
use mathlib.Core.Path.{◌≡◌, refl, sym, ◌∙◌, ap}
use mathlib.Core.Bool.{Bool, true, false}
use mathlib.Core.List.{List, [], ◌∷◌}
use Prim.Native.Nat.{ℕ, suc, ◌+◌, ◌<◌, ◌≤◌}
use native.Mathlib.Omega.{arith}
use borrow.Author.Tests.{eqb-true, eqb-false, eq-eqb, ne_eqb}
use lib.Dec.{eqb}
use lib.ListN.{length, get_or, drop, length-append, length-replicate}
use lib.Seq.{drop-cons, drop-drop}
use Rattle.runs.specs.declared.Run.{Run}
use Rattle.runs.specs.Runs.{run, joined, runs_from, expand, total, lead}

-- what an answer in front does, by whether the first run is of its task
pub joined_same : (b at : ℕ) (r : Run) (rs : List Run) → b ≡ r.task → joined b at (r ∷ rs) ≡ run b at (suc r.length) ∷ rs
joined_same b at r rs e = rw (eq-eqb b r.task e)

pub joined-other : (b at : ℕ) (r : Run) (rs : List Run) → (b ≡ r.task → ⊥) → joined b at (r ∷ rs) ≡ run b at 1 ∷ r ∷ rs
joined-other b at r rs n = rw (ne_eqb b r.task n)

pub lead-same : (b c : ℕ) (xs : List ℕ) → b ≡ c → lead b (c ∷ xs) ≡ suc (lead b xs)
lead-same b c xs e = rw (eq-eqb b c e)

pub lead-other : (b c : ℕ) (xs : List ℕ) → (b ≡ c → ⊥) → lead b (c ∷ xs) ≡ 0
lead-other b c xs n = rw (ne_eqb b c n)

-- the first run, and the runs after it
pub runs_lead : (b at : ℕ) (xs : List ℕ) → runs_from at (b ∷ xs) ≡ run b at (suc (lead b xs)) ∷ runs_from (suc at + lead b xs) (drop (lead b xs) xs)
runs_lead b at [] = refl
runs_lead b at (c ∷ xs) = go (eqb b c) refl (runs_lead c (suc at) xs)
  where
    go : (t : Bool) → eqb b c ≡ t → runs_from (suc at) (c ∷ xs) ≡ run c (suc at) (suc (lead c xs)) ∷ runs_from (suc (suc at) + lead c xs) (drop (lead c xs) xs)
        → runs_from at (b ∷ c ∷ xs) ≡ run b at (suc (lead b (c ∷ xs))) ∷ runs_from (suc at + lead b (c ∷ xs)) (drop (lead b (c ∷ xs)) (c ∷ xs))
    go true e ih =
        let same : b ≡ c = eqb-true b c e in
        let place : suc (suc at) + lead b xs ≡ suc at + suc (lead b xs) = omega arith in
        ap (joined b at) ih ∙ (joined_same b at (run c (suc at) (suc (lead c xs))) (runs_from (suc (suc at) + lead c xs) (drop (lead c xs) xs)) same) ∙ rw (e, ← same, place)
    go false e ih =
        let place : suc at + 0 ≡ suc at = omega arith in
        ap (joined b at) ih ∙ (joined-other b at (run c (suc at) (suc (lead c xs))) (runs_from (suc (suc at) + lead c xs) (drop (lead c xs) xs)) (eqb-false b c e)) ∙ ap (λ (rs : List Run). run b at 1 ∷ rs) (sym ih) ∙ rw (e, place)

pub lead_le : (b : ℕ) (xs : List ℕ) → lead b xs ≤ length xs
lead_le b [] = omega arith
lead_le b (c ∷ xs) = go (eqb b c) refl (lead_le b xs)
  where
    go : (t : Bool) → eqb b c ≡ t → lead b xs ≤ length xs → lead b (c ∷ xs) ≤ suc (length xs)
    go true e h = rw e (omega (arith, h))
    go false e h = rw e (omega arith)

-- expanding the runs gives the answers
pub expand-joined : (b at : ℕ) (rs : List Run) → expand (joined b at rs) ≡ b ∷ expand rs
expand-joined b at [] = refl
expand-joined b at (r ∷ rs) = go (eqb b r.task) refl
  where
    go : (t : Bool) → eqb b r.task ≡ t → expand (joined b at (r ∷ rs)) ≡ b ∷ expand (r ∷ rs)
    go true e = let same : b ≡ r.task = eqb-true b r.task e in rw (e, same)
    go false e = rw e

pub expand-runs : (at : ℕ) (xs : List ℕ) → expand (runs_from at xs) ≡ xs
expand-runs at [] = refl
expand-runs at (b ∷ xs) = expand-joined b at (runs_from (suc at) xs) ∙ ap (λ (ys : List ℕ). b ∷ ys) (expand-runs (suc at) xs)

pub length-expand : (rs : List Run) → length (expand rs) ≡ total rs
length-expand [] = refl
length-expand (r ∷ rs) = let e = length-expand rs in simp (length-append, length-replicate, e)

pub total_runs : (at : ℕ) (xs : List ℕ) → total (runs_from at xs) ≡ length xs
total_runs at xs = sym (length-expand (runs_from at xs)) ∙ ap (λ (ys : List ℕ). length ys) (expand-runs at xs)

-- there are at most as many runs as answers
pub joined_le : (b at : ℕ) (rs : List Run) → length (joined b at rs) ≤ suc (length rs)
joined_le b at [] = omega arith
joined_le b at (r ∷ rs) = go (eqb b r.task) refl
  where
    go : (t : Bool) → eqb b r.task ≡ t → length (joined b at (r ∷ rs)) ≤ suc (suc (length rs))
    go true e = rw e (omega arith)
    go false e = rw e (omega arith)

pub runs_le : (at : ℕ) (xs : List ℕ) → length (runs_from at xs) ≤ length xs
runs_le at [] = omega arith
runs_le at (b ∷ xs) = let h = runs_le (suc at) xs in let j = joined_le b at (runs_from (suc at) xs) in omega (arith, h, j)

-- the run that begins at place `at` of all answers, and those after it
pub runs-at : (xs : List ℕ) (at : ℕ) → at < length xs
    → runs_from at (drop at xs) ≡ run (get_or xs at 0) at (suc (lead (get_or xs at 0) (drop (suc at) xs))) ∷ runs_from (suc at + lead (get_or xs at 0) (drop (suc at) xs)) (drop (suc at + lead (get_or xs at 0) (drop (suc at) xs)) xs)
runs-at xs at h = rw (drop-cons xs at 0 h, ← drop-drop (lead (get_or xs at 0) (drop (suc at) xs)) (suc at) xs) (runs_lead (get_or xs at 0) at (drop (suc at) xs))
