-- How the writer's loop follows the runs: k records are written, and the next begins at tick `at`.
use Rattle.std.specs.Prelude.{Ok, Err}
use mathlib.Core.Path.{◌≡◌, refl, sym, ◌∙◌, ap}
use mathlib.Core.Bool.{Bool, true, false}
use mathlib.Core.List.{List, [], ◌∷◌, ◌++◌, append_assoc}
use mathlib.Core.Logic.{⊎_elim}
use Prim.Native.Nat.{ℕ, suc, ◌+◌, ◌-◌, ◌<◌, ◌≤◌}
use native.Mathlib.Omega.{arith}
use borrow.Author.Tests.{ltb-true, ltb-false}
use lib.Dec.{ltb}
use lib.ListN.{length, get_or, take, drop, set, length-append, length-drop}
use lib.Seq.{take-length, drop-cons, take-suc, set_at, length-take-le}
use Rattle.numbers.specs.First.{first}
use Rattle.refusal.specs.Tests.{by_outcome}
use Rattle.refusal.specs.declared.Cause.{Cause}
use Rattle.refusal.proofs.TestLaws.{then_accepted, refuse_at_accepted, refuse_if_accepted, outcome_cases}
use Rattle.runs.specs.declared.Run.{Run}
use Rattle.runs.specs.declared.Logged.{Logged}
use Rattle.runs.specs.Runs.{run, runs, runs_from}
use Rattle.runs.specs.Lent.{logged_by}
use Rattle.runs.proofs.LentLaws.{exit_accepted, exit_refused}
use Rattle.recording.specs.Tests.{above_at, answers_test, write_outcome, write_answer, log_after}
use Rattle.recording.proofs.PassLaws.{Ends, pass_run, none_left}

-- ---- how many records are written

-- accepted answers are at most 60,000 and none is above 16, and there is room for their records
pub write_accepted : (xs : List ℕ) (room : ℕ) → write_outcome xs room ≡ Ok tt
    → (length xs ≤ 60000) × ((first (above_at xs) (length xs) ≡ 0) × (length (runs xs) ≤ room))
unfolding write_outcome answers_test
write_accepted xs room e =
    let both = then_accepted _ _ e in
    let front = then_accepted _ _ both.0 in
    (ltb-false 60000 (length xs) (refuse_if_accepted _ _ front.0), (refuse_at_accepted _ _ front.1, ltb-false room (length (runs xs)) (refuse_if_accepted _ _ both.1)))

-- the count, by the outcome
pub count_accepted : (xs : List ℕ) (room : ℕ) → write_outcome xs room ≡ Ok tt → (write_answer xs room).count ≡ length (runs xs)
unfolding write_answer logged_by by_outcome
count_accepted xs room e = rw e

pub count_refused : (xs : List ℕ) (room : ℕ) (c : Cause) → write_outcome xs room ≡ Err c → (write_answer xs room).count ≡ 0
unfolding write_answer logged_by by_outcome
count_refused xs room c e = rw e

-- What the loop needs of the count: so many records there are, and so many the row has; if there are any, ticks fit.
pub record Counted (xs : List ℕ) (room count : ℕ) : Type 0 where
  pub there : count ≤ length (runs xs)
  pub fits : count ≤ room
  pub ticks : 0 < count → length xs ≤ 60000

pub counted : (xs : List ℕ) (room : ℕ) (answer : Logged) → answer ≡ write_answer xs room → Counted xs room answer.count
counted xs room answer ea = ⊎_elim good refused (outcome_cases (write_outcome xs room))
  where
    same : answer.count ≡ (write_answer xs room).count
    same = ap (λ (a : Logged). a.count) ea

    good : write_outcome xs room ≡ Ok tt → Counted xs room answer.count
    good e = let f = write_accepted xs room e in let n = same ∙ count_accepted xs room e in record { there = omega (arith, n); fits = omega (arith, n, f.1.1); ticks = λ _. f.0 }

    refused : (c : Cause) × (write_outcome xs room ≡ Err c) → Counted xs room answer.count
    refused e = let n = same ∙ count_refused xs room e.0 e.1 in record { there = omega (arith, n); fits = omega (arith, n); ticks = λ (h : 0 < answer.count). absurd (omega (arith, n, h)) }

-- ---- the row with k records written

abbrev pub filled : List Run → ℕ → List Run → List Run
filled rs k ys = take k rs ++ drop k ys

pub filled-length : (rs : List Run) (k : ℕ) (ys : List Run) → k ≤ length rs → k ≤ length ys → length (filled rs k ys) ≡ length ys
filled-length rs k ys h g = let t = length-take-le k rs h in simp (length-append, length-drop, t) (omega (arith, g))

pub filled_step : (rs : List Run) (k : ℕ) (ys : List Run) (r : Run) → k < length rs → k < length ys → r ≡ get_or rs k r → set (filled rs k ys) k r ≡ filled rs (k + 1) ys
filled_step rs k ys r h g e =
    let one : k + 1 ≡ suc k = omega arith in
    let last : take (suc k) rs ≡ take k rs ++ (r ∷ []) = take-suc rs k r h ∙ ap (λ (z : Run). take k rs ++ (z ∷ [])) (sym e) in
    rw (one, last, drop-cons ys k r g, append_assoc) (set_at (take k rs) (get_or ys k r) (drop (suc k) ys) r k (length-take-le k rs (omega (arith, h))))

-- the row at exit, by the outcome
pub log_accepted : (xs : List ℕ) (before : List Run) → write_outcome xs (length before) ≡ Ok tt → log_after xs before ≡ runs xs ++ drop (length (runs xs)) before
unfolding log_after
log_accepted xs before e = exit_accepted before (write_outcome xs (length before)) (runs xs) e

pub log_refused : (xs : List ℕ) (before : List Run) (c : Cause) → write_outcome xs (length before) ≡ Err c → log_after xs before ≡ before
unfolding log_after
log_refused xs before c e = exit_refused before (write_outcome xs (length before)) (runs xs) c e

pub log_filled : (xs : List ℕ) (ys : List Run) → filled (runs xs) (write_answer xs (length ys)).count ys ≡ log_after xs ys
log_filled xs ys =
    ⊎_elim
    (λ (e : write_outcome xs (length ys) ≡ Ok tt).
    ap (λ (n : ℕ). filled (runs xs) n ys) (count_accepted xs (length ys) e) ∙ ap (λ (rs : List Run). rs ++ drop (length (runs xs)) ys) (take-length (runs xs)) ∙ sym (log_accepted xs ys e))
    (λ (e : (c : Cause) × (write_outcome xs (length ys) ≡ Err c)).
    ap (λ (n : ℕ). filled (runs xs) n ys) (count_refused xs (length ys) e.0 e.1) ∙ sym (log_refused xs ys e.0 e.1))
    (outcome_cases (write_outcome xs (length ys)))

-- ---- the answers that k records have passed

abbrev pub Passed : List ℕ → ℕ → ℕ → Type 0
Passed xs k at = drop k (runs xs) ≡ runs_from at (drop at xs)

pub passed_inside : (xs : List ℕ) (k at : ℕ) → Passed xs k at → k < length (runs xs) → at < length xs
passed_inside xs k at p h = go (ltb at (length xs)) refl
  where
    go : (t : Bool) → ltb at (length xs) ≡ t → at < length xs
    go true e = ltb-true at (length xs) e
    go false e =
        let z = none_left xs at (ltb-false at (length xs) e) in
        let d = length-drop k (runs xs) in
        let s : length (drop k (runs xs)) ≡ length (runs_from at (drop at xs)) = ap (λ (rs : List Run). length rs) p in
        absurd (omega (arith, z, d, s, h))

passed_both : (xs : List ℕ) (k at end : ℕ) (d : Run) → Passed xs k at → k < length (runs xs) → Ends xs at end
    → get_or (runs xs) k d ∷ drop (suc k) (runs xs) ≡ run (get_or xs at 0) at (end - at) ∷ runs_from end (drop end xs)
passed_both xs k at end d p h e = sym (drop-cons (runs xs) k d h) ∙ p ∙ pass_run xs at end (passed_inside xs k at p h) e

pub passed_next : (xs : List ℕ) (k at end : ℕ) → Passed xs k at → k < length (runs xs) → Ends xs at end → Passed xs (k + 1) end
passed_next xs k at end p h e = let one : k + 1 ≡ suc k = omega arith in rw one (ap (λ (l : List Run). drop 1 l) (passed_both xs k at end (run 0 0 0) p h e))

-- the record of a run, by what is said of it
abbrev pub IsRun : List ℕ → ℕ → ℕ → Run → Type 0
IsRun xs at end r = (r.task ≡ get_or xs at 0) × ((r.first ≡ at) × (r.first + r.length ≡ end))

pub passed_run : (xs : List ℕ) (k at end : ℕ) (r : Run) → Passed xs k at → k < length (runs xs) → Ends xs at end → IsRun xs at end r → r ≡ get_or (runs xs) k r
passed_run xs k at end r p h e f =
    let len : r.length ≡ end - at = omega (arith, f.1.0, f.1.1) in
    let same : r ≡ run (get_or xs at 0) at (end - at) = (λ i. record { task = f.0 i; first = f.1.0 i; length = len i }) in
    same ∙ sym (ap (λ (l : List Run). get_or l 0 r) (passed_both xs k at end r p h e))
