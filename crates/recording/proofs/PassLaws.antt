-- How the loops over answers follow the runs.
use mathlib.Core.Path.{◌≡◌, sym, ◌∙◌}
use mathlib.Core.List.{List, ◌∷◌}
use Prim.Native.Nat.{ℕ, suc, ◌+◌, ◌-◌, ◌<◌, ◌≤◌}
use native.Mathlib.Numerals.{add-one}
use native.Mathlib.Omega.{arith}
use lib.ListN.{length, get_or, drop, length-drop, drop_of_length-le}
use lib.Seq.{drop-cons}
use Rattle.runs.specs.Runs.{run, runs_from, lead}
use Rattle.runs.proofs.RunLaws.{lead_le, lead-same, lead-other, runs-at}

-- the search for the end of a run
pub lead_hit : (b : ℕ) (l : List ℕ) (i : ℕ) → i < length l → get_or l i 0 ≡ b → i + 1 + lead b (drop (i + 1) l) ≡ i + lead b (drop i l)
lead_hit b l i h e =
    let step : lead b (drop i l) ≡ suc (lead b (drop (suc i) l)) = rw (drop-cons l i 0 h) (lead-same b (get_or l i 0) (drop (suc i) l) (sym e)) in
    let one : i + 1 ≡ suc i = omega arith in
    rw (step, one) (omega arith)

pub lead_miss : (b : ℕ) (l : List ℕ) (i : ℕ) → i < length l → (get_or l i 0 ≡ b → ⊥) → lead b (drop i l) ≡ 0
lead_miss b l i h n = rw (drop-cons l i 0 h) (lead-other b (get_or l i 0) (drop (suc i) l) (λ (e : b ≡ get_or l i 0). n (sym e)))

pub lead_done : (b : ℕ) (l : List ℕ) (i : ℕ) → length l ≤ i → lead b (drop i l) ≡ 0
lead_done b l i h = rw (drop_of_length-le l h)

-- a run that is passed, from `at` up to `end`
abbrev pub Ends : List ℕ → ℕ → ℕ → Type 0
Ends xs at end = end ≡ at + 1 + lead (get_or xs at 0) (drop (at + 1) xs)

pub pass_end : (xs : List ℕ) (at end : ℕ) → at < length xs → Ends xs at end → (at < end) × (end ≤ length xs)
pass_end xs at end h e = let l = lead_le (get_or xs at 0) (drop (at + 1) xs) in let d = length-drop (at + 1) xs in (omega (arith, e), omega (arith, h, e, l, d))

pub pass_run : (xs : List ℕ) (at end : ℕ) → at < length xs → Ends xs at end → runs_from at (drop at xs) ≡ run (get_or xs at 0) at (end - at) ∷ runs_from end (drop end xs)
pass_run xs at end h e =
    let len : suc (lead (get_or xs at 0) (drop (suc at) xs)) ≡ end - at = (let e' = rw add-one at e in omega (arith, e')) in
    let nxt : suc at + lead (get_or xs at 0) (drop (suc at) xs) ≡ end = (let e' = rw add-one at e in sym e') in
    runs-at xs at h ∙ rw (len, nxt)

pub none_left : (xs : List ℕ) (at : ℕ) → length xs ≤ at → length (runs_from at (drop at xs)) ≡ 0
none_left xs at h = rw (drop_of_length-le xs h)
