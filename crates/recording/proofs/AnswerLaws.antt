-- The pass over the answers, and the writer's tests made in order.
use mathlib.Core.Path.{◌≡◌, refl, sym, ◌∙◌, ap}
use mathlib.Core.List.{List, [], ◌∷◌}
use Prim.Native.Nat.{ℕ, suc, ◌+◌, ◌≤◌, ◌<◌}
use native.Mathlib.Omega.{arith}
use borrow.Author.Tests.{ltb-false, lt-ltb, le-ltb, eq-eqb, ne_eqb}
use lib.Dec.{ltb}
use lib.ListN.{length, drop, drop_of_length-le}
use lib.Seq.{drop-cons}
use Rattle.std.specs.Prelude.{Ok, Err}
use Rattle.numbers.specs.First.{first}
use Rattle.numbers.specs.Rows.{entry}
use Rattle.numbers.proofs.FirstLaws.{Seeking, seek_start, seek_none, looked_on, looked_found, first_zero}
use Rattle.refusal.specs.Tests.{◌then◌, refuse_if, refuse_at, room_test, by_outcome}
use Rattle.refusal.specs.declared.Cause.{Cause}
use Rattle.refusal.specs.declared.Cause.TheVariants.{Answer, LogRoom}
use Rattle.refusal.specs.Outcome.{Outcome}
use Rattle.refusal.proofs.TestLaws.{then_first, then_refused, refuse_found, refuse_at_zero}
use Rattle.runs.specs.declared.Logged.{Logged}
use Rattle.runs.specs.Runs.{runs}
use Rattle.runs.specs.Lent.{logged_by}
use Rattle.runs.specs.Log.{changes, needed}
use Rattle.runs.proofs.LogLaws.{runs-needed}
use Rattle.recording.specs.Tests.{above_at, answers_test, write_outcome, write_answer, Surveyed}

-- ---- the pass: before answer k none is above 16, `n` records have begun, and the last is of the task `before`

pub record Surveying (xs : List ℕ) (n before k : ℕ) : Type 0 where
  pub top : k ≤ length xs
  pub few : n ≤ k
  seeks : Seeking (above_at xs) (length xs) k
  counts : n + changes before (drop k xs) ≡ changes 17 xs

pub survey_start : (xs : List ℕ) → Surveying xs 0 17 0
survey_start xs = record { top = omega arith; few = omega arith; seeks = seek_start (above_at xs) (length xs); counts = omega arith }

module _ {xs : List ℕ} {n before k : ℕ} (s : Surveying xs n before k) where
  pub survey_above : k < length xs → 16 < entry xs k → Surveyed xs (Err (k + 1))
  unfolding above_at
  survey_above h g = (omega arith, looked_found s.seeks h (sym (lt-ltb 16 (entry xs k) g)) refl)

  seeks_on : k < length xs → entry xs k ≤ 16 → Seeking (above_at xs) (length xs) (k + 1)
  unfolding above_at
  seeks_on h g = looked_on s.seeks h (sym (le-ltb 16 (entry xs k) g)) refl

  left : k < length xs → n + changes before (entry xs k ∷ drop (suc k) xs) ≡ changes 17 xs
  left h = ap (λ (l : List ℕ). n + changes before l) (sym (drop-cons xs k 0 h)) ∙ s.counts

  pub survey_other : k < length xs → entry xs k ≤ 16 → (entry xs k ≡ before → ⊥) → Surveying xs (n + 1) (entry xs k) (k + 1)
  survey_other h g d =
      let one : k + 1 ≡ suc k = omega arith in
      let more : n + suc (changes (entry xs k) (drop (suc k) xs)) ≡ changes 17 xs = rw (ne_eqb before (entry xs k) (λ (e : before ≡ entry xs k). d (sym e))) at (left h) in
      let m = s.few in
      record { top = omega (arith, h); few = omega (arith, m); seeks = seeks_on h g; counts = rw one (omega (arith, more)) }

  pub survey_same : k < length xs → entry xs k ≤ 16 → entry xs k ≡ before → Surveying xs n (entry xs k) (k + 1)
  survey_same h g d =
      let one : k + 1 ≡ suc k = omega arith in
      let more : n + changes (entry xs k) (drop (suc k) xs) ≡ changes 17 xs = rw (eq-eqb before (entry xs k) (sym d)) at (left h) in
      let m = s.few in
      record { top = omega (arith, h); few = omega (arith, m); seeks = seeks_on h g; counts = rw one more }

-- where none is above 16 the first answer begins a record
begins : (xs : List ℕ) → 0 ≡ first (above_at xs) (length xs) → changes 17 xs ≡ needed xs
unfolding above_at
begins [] z = refl
begins (b ∷ xs) z =
    let low = ltb-false 16 b (first_zero (above_at (b ∷ xs)) (length (b ∷ xs)) (sym z) 0 (omega arith)) in
    rw (ne_eqb 17 b (λ (e : 17 ≡ b). omega (arith, e, low)))

pub survey_done : {xs : List ℕ} {n before k : ℕ} → Surveying xs n before k → length xs ≤ k → Surveyed xs (Ok n)
survey_done {xs} {n} {before} {k} s h =
    let none = seek_none s.seeks h in
    let all : n + 0 ≡ changes 17 xs = ap (λ (l : List ℕ). n + changes before l) (sym (drop_of_length-le xs h)) ∙ s.counts in
    let b = begins xs none in
    let m = runs-needed xs in
    (sym none, omega (arith, all, b, m))

-- ---- the answer

module _ (xs : List ℕ) (room : ℕ) where
  -- too many answers: nothing else is looked at
  pub write_long : {o : Outcome} {c : Cause} {r : Logged} → o ≡ refuse_if (ltb 60000 (length xs)) (Answer 0) → o ≡ Err c → r ≡ logged_by o 0 → r ≡ write_answer xs room
  unfolding write_answer write_outcome answers_test logged_by by_outcome
  write_long {c = c} e f g =
      let first-test : refuse_if (ltb 60000 (length xs)) (Answer 0) ≡ Err c = sym e ∙ f in
      g ∙ ap (λ p. logged_by p 0) f ∙ ap (λ p. logged_by p (length (runs xs))) (sym (ap (λ p. p then room_test LogRoom (length (runs xs)) room) (then_refused _ _ c first-test) ∙ then_refused _ _ c refl))

  -- an answer above 16: nothing else is counted
  pub write_above : {o : Outcome} {k : ℕ} {r : Logged} → o ≡ refuse_if (ltb 60000 (length xs)) (Answer 0) → o ≡ Ok tt → Surveyed xs (Err k)
      → r ≡ logged_by (Err (Answer k)) 0 → r ≡ write_answer xs room
  unfolding write_answer write_outcome answers_test logged_by by_outcome ◌then◌
  write_above {k = k} e f found g =
      let test : refuse_at (first (above_at xs) (length xs)) Answer ≡ Err (Answer k) =
      (rw (← found.1) (refuse_found k Answer (λ z. omega (arith, z, found.0)))) in
      g ∙ rw (sym e ∙ f, test)

  -- none is: the room decides
  pub write_counted : {o u : Outcome} {n : ℕ} {r : Logged} → o ≡ refuse_if (ltb 60000 (length xs)) (Answer 0) → o ≡ Ok tt → Surveyed xs (Ok n)
      → u ≡ room_test LogRoom n room → r ≡ logged_by u n → r ≡ write_answer xs room
  unfolding write_answer write_outcome answers_test
  write_counted e f found u-is r-is =
      let test : refuse_at (first (above_at xs) (length xs)) Answer ≡ Ok tt = refuse_at_zero _ Answer found.0 in
      rw (u-is, found.1) at r-is ∙ ap (λ q. logged_by q (length (runs xs))) (sym (then_first _ _ (then_first _ _ (sym e ∙ f) ∙ test)))
