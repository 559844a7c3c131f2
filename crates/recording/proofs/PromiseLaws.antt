-- The writer refuses by its conditions, and keeps its promise.
use Rattle.std.specs.Prelude.{Ok, Err}
use mathlib.Core.Path.{◌≡◌, refl, sym, ◌∙◌, ap, subst}
use mathlib.Core.List.{List, [], ◌∷◌, ◌++◌}
use mathlib.Core.Logic.{⊎_elim}
use Prim.Native.Nat.{ℕ, zero, suc, ◌<◌, ◌≤◌}
use native.Mathlib.Omega.{arith}
use lib.ListN.{length, take, drop}
use lib.Seq.{take_at}
use Rattle.numbers.specs.Rows.{entry}
use Rattle.numbers.proofs.BoundLaws.{less_exactly, not_less}
use Rattle.refusal.specs.Causes.{number_in}
use Rattle.refusal.specs.Conditions.{only, at, no_room, Reports, Tested, Decides}
use Rattle.refusal.specs.Tests.{room_test}
use Rattle.refusal.specs.declared.Cause.{Cause}
use Rattle.refusal.specs.declared.Cause.TheVariants.{Answer, LogRoom}
use Rattle.refusal.proofs.TestLaws.{outcome_cases}
use Rattle.refusal.proofs.ConditionLaws.{test_only, test_at, then_reports, decides, no_number, some_number, accepts}
use Rattle.runs.specs.declared.Run.{Run}
use Rattle.runs.specs.declared.Logged.{Logged}
use Rattle.runs.specs.Runs.{run, runs}
use Rattle.runs.specs.Log.{run_at, needed, LogOf}
use Rattle.runs.proofs.FitLaws.{AllLow}
use Rattle.runs.proofs.LogLaws.{runs_log, runs-needed}
use Rattle.runs.proofs.LentLaws.{logged_outcome, behind, as_long}
use Rattle.recording.specs.Tests.{above_at, answers_test, write_outcome, write_answer, log_after}
use Rattle.recording.specs.Limits.{Writable, write_conditions}
use Rattle.recording.specs.Promise.{Writes}
use Rattle.recording.proofs.WriteLaws.{count_accepted, count_refused, log_accepted, log_refused}

-- ---- refusals

module _ (xs : List ℕ) (room : ℕ) where
  write_reports : Reports (write_conditions xs room) (write_outcome xs room)
  unfolding write_outcome answers_test above_at
  write_reports =
      then_reports (only 23 (60000 < length xs) ∷ at 23 (λ k. 16 < entry xs k) (length xs) ∷ []) (no_room 24 (needed xs) room ∷ [])
      (then_reports (only 23 (60000 < length xs) ∷ []) (at 23 (λ k. 16 < entry xs k) (length xs) ∷ [])
      (test_only (Answer 0) refl (less_exactly 60000 (length xs)))
      (λ _. test_at Answer (λ k. (refl, refl)) (λ k. less_exactly 16 (entry xs k))))
      (λ _. subst (λ (n : ℕ). Reports (no_room 24 n room ∷ []) (room_test LogRoom (length (runs xs)) room)) (runs-needed xs)
      (test_only LogRoom refl (less_exactly room (length (runs xs)))))

  write_tested : Tested (Writable xs room) (write_conditions xs room) (write_outcome xs room)
  write_tested = record {
    reports = write_reports;
    valid = (
      λ n. record { few = not_less _ _ n.0; low = λ (k : ℕ) (h : k < length xs). not_less _ _ (n.1.0 k h); fits = not_less _ _ n.1.1.0 },
      λ w. (λ h. omega (arith, w.few, h), (λ k h g. (let l = w.low k h in omega (arith, l, g)), (λ h. omega (arith, w.fits, h), tt))),
    );
  }

  said : {answer : Logged} → answer ≡ write_answer xs room → answer.outcome ≡ write_outcome xs room
  unfolding write_answer
  said e = ap (λ (a : Logged). a.outcome) e ∙ logged_outcome (write_outcome xs room) (length (runs xs))

  pub write_decides : {answer : Logged} → answer ≡ write_answer xs room → Decides (Writable xs room) (write_conditions xs room) answer.outcome
  write_decides e = subst (Decides (Writable xs room) (write_conditions xs room)) (sym (said e)) (decides write_tested)

  pub writable : write_outcome xs room ≡ Ok tt → Writable xs room
  writable e = (accepts (decides write_tested)).0 e

  pub write_accepts : Writable xs room → write_outcome xs room ≡ Ok tt
  write_accepts v = (accepts (decides write_tested)).1 v

  pub write_said : (write_answer xs room).outcome ≡ write_outcome xs room
  write_said = said refl

-- ---- what is promised

-- no answer above 16, one after another
pub all_low : (xs : List ℕ) → ((k : ℕ) → k < length xs → entry xs k ≤ 16) → AllLow xs
all_low [] h = tt
all_low (b ∷ xs) h = (h 0 (omega arith), all_low xs (λ (k : ℕ) (l : k < length xs). h (suc k) (omega (arith, l))))

-- the same by its index
pub low_entry : (xs : List ℕ) → AllLow xs → (k : ℕ) → k < length xs → entry xs k ≤ 16
low_entry [] l k h = absurd (omega (arith, h))
low_entry (b ∷ xs) l zero h = l.0
low_entry (b ∷ xs) l (suc k) h = low_entry xs l.1 k (omega (arith, h))

-- the front of the row where the answers are accepted
pub log_front : (xs : List ℕ) (before : List Run) → write_outcome xs (length before) ≡ Ok tt → take (write_answer xs (length before)).count (log_after xs before) ≡ runs xs
log_front xs before e =
    ap (λ (n : ℕ). take n (log_after xs before)) (count_accepted xs (length before) e) ∙ ap (take (length (runs xs))) (log_accepted xs before e)
    ∙ take_at (runs xs) (drop (length (runs xs)) before) (length (runs xs)) refl

module _ (xs : List ℕ) (before : List Run) {answer : Logged} {after : List Run} (ea : answer ≡ write_answer xs (length before)) (eo : after ≡ log_after xs before) where
  counts : answer.count ≡ (write_answer xs (length before)).count
  counts = ap (λ (a : Logged). a.count) ea

  module _ (e : write_outcome xs (length before) ≡ Ok tt) where
    w : Writable xs (length before)
    w = writable xs (length before) e

    needs : answer.count ≡ length (runs xs)
    needs = counts ∙ count_accepted xs (length before) e

    stands : after ≡ runs xs ++ drop (length (runs xs)) before
    stands = eo ∙ log_accepted xs before e

    fits : length (runs xs) ≤ length before
    fits = let n = runs-needed xs in let h = w.fits in omega (arith, n, h)

    front : take answer.count after ≡ runs xs
    front = ap (λ (n : ℕ). take n after) counts ∙ ap (take (write_answer xs (length before)).count) eo ∙ log_front xs before e

    log_there : LogOf xs (take answer.count after)
    log_there = subst (LogOf xs) (sym front) (runs_log xs (all_low xs w.low) w.few)

    beyond_there : (k : ℕ) → answer.count ≤ k → run_at after k ≡ run_at before k
    beyond_there k h = ap (λ (l : List Run). run_at l k) stands ∙ behind (runs xs) before k (run 0 0 0) (let n = needs in omega (arith, n, h))

    long_there : length after ≡ length before
    long_there = ap (λ (l : List Run). length l) stands ∙ as_long (runs xs) before fits

  module _ (c : Cause) (e : write_outcome xs (length before) ≡ Err c) where
    none : answer.count ≡ 0
    none = counts ∙ count_refused xs (length before) c e

    kept : after ≡ before
    kept = eo ∙ log_refused xs before c e

  accepted : number_in answer.outcome ≡ 0 → write_outcome xs (length before) ≡ Ok tt
  accepted z = sym (said xs (length before) ea) ∙ no_number answer.outcome z

  pub writes : Writes xs before (number_in answer.outcome) answer.count after
  writes = record {
    refused = λ n.
        let r = some_number answer.outcome n in
        let e = sym (said xs (length before) ea) ∙ r.1 in
        (none r.0 e, kept r.0 e);
    counts = λ z. needs (accepted z) ∙ runs-needed xs;
    log = λ z. log_there (accepted z);
    beyond = λ (k : ℕ) (h : answer.count ≤ k).
        ⊎_elim (λ (e : write_outcome xs (length before) ≡ Ok tt). beyond_there e k h)
        (λ (e : (c : Cause) × (write_outcome xs (length before) ≡ Err c)). ap (λ (l : List Run). run_at l k) (kept e.0 e.1))
        (outcome_cases (write_outcome xs (length before)));
    long =
        ⊎_elim (λ (e : write_outcome xs (length before) ≡ Ok tt). long_there e)
        (λ (e : (c : Cause) × (write_outcome xs (length before) ≡ Err c)). ap (λ (l : List Run). length l) (kept e.0 e.1))
        (outcome_cases (write_outcome xs (length before)));
  }
