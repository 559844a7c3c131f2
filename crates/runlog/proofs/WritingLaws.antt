-- The loop that writes records into a row: k are written, and the next begins at tick `at`.
use mathlib.Core.Path.{◌≡◌, refl, sym, ◌∙◌, ap}
use mathlib.Core.List.{List}
use Prim.Native.Nat.{ℕ, ◌+◌, ◌<◌, ◌≤◌}
use native.Mathlib.Omega.{arith}
use lib.ListN.{length, set}
use Rattle.runs.specs.declared.Run.{Run}
use Rattle.runs.specs.declared.Logged.{Logged}
use Rattle.runs.specs.Runs.{runs}
use Rattle.recording.specs.Tests.{write_answer, log_after}
use Rattle.recording.proofs.PassLaws.{Ends, pass_end}
use Rattle.recording.proofs.WriteLaws.{Counted, counted, filled, filled-length, filled_step, log_filled, Passed, passed_inside, passed_next, passed_run, IsRun}
use Rattle.runlog.specs.Rows.{Holding}

pub record Writing {A : Type 0} (records : List A → List Run) (holding : List A → List Run → List A) (xs : List ℕ) (row₀ row : List A) (count k at : ℕ) : Type 0 where
  pub below : k ≤ count
  pub inside : at ≤ length xs
  stands : row ≡ holding row₀ (filled (runs xs) k (records row₀))
  passed : Passed xs k at

pub writing_start : {A : Type 0} {records : List A → List Run} {holding : List A → List Run → List A} → Holding records holding
    → (xs : List ℕ) (row : List A) (count : ℕ) → Writing records holding xs row row count 0 0
writing_start h xs row count = record { below = omega arith; inside = omega arith; stands = sym (h.same row); passed = refl }

module _ {A : Type 0} {records : List A → List Run} {holding : List A → List Run → List A} (laws : Holding records holding) {xs : List ℕ} {row₀ row : List A} {k at : ℕ} (answer : Logged)
    (ea : answer ≡ write_answer xs (length (records row₀))) (w : Writing records holding xs row₀ row answer.count k at) where
  c : Counted xs (length (records row₀)) answer.count
  c = counted xs (length (records row₀)) answer ea

  as_many : length (filled (runs xs) k (records row₀)) ≡ length (records row₀)
  as_many = let a = w.below in let b = c.there in let d = c.fits in filled-length (runs xs) k (records row₀) (omega (arith, a, b)) (omega (arith, a, d))

  -- the records that stand there now
  now_there : records row ≡ filled (runs xs) k (records row₀)
  now_there = ap records w.stands ∙ laws.held row₀ (filled (runs xs) k (records row₀)) as_many

  -- the next record: where it begins, where it ends, and that the row has it
  pub next_begins : k < answer.count → at < length xs
  next_begins h = let b = c.there in passed_inside xs k at w.passed (omega (arith, h, b))

  pub next_ends : (end : ℕ) → k < answer.count → Ends xs at end → (at < length xs) × ((at ≤ end) × (end ≤ 60000))
  next_ends end h e =
      let p = pass_end xs at end (next_begins h) e in
      let t = c.ticks (omega (arith, h)) in
      (next_begins h, (omega (arith, p.0), omega (arith, p.1, t)))

  pub next_there : k < answer.count → k < length (records row)
  next_there h = let n = ap (λ (rs : List Run). length rs) now_there ∙ as_many in let d = c.fits in omega (arith, h, n, d)

  pub writing_next : (end : ℕ) (r : Run) {row' : List A} → row' ≡ holding row (set (records row) k r) → k < answer.count → Ends xs at end → IsRun xs at end r
      → Writing records holding xs row₀ row' answer.count (k + 1) end
  writing_next end r s h e f =
      let b = c.there in
      let d = c.fits in
      record {
        below = omega (arith, h);
        inside = (pass_end xs at end (next_begins h) e).1;
        stands =
            s ∙ ap (λ (rs : List Run). holding row (set rs k r)) now_there
            ∙ ap (holding row) (filled_step (runs xs) k (records row₀) r (omega (arith, h, b)) (omega (arith, h, d)) (passed_run xs k at end r w.passed (omega (arith, h, b)) e f))
            ∙ ap (λ (l : List A). holding l (filled (runs xs) (k + 1) (records row₀))) w.stands
            ∙ laws.last row₀ (filled (runs xs) k (records row₀)) (filled (runs xs) (k + 1) (records row₀)) as_many;
        passed = passed_next xs k at end w.passed (omega (arith, h, b)) e;
      }

  -- all are written
  all_there : answer.count ≤ k → filled (runs xs) k (records row₀) ≡ log_after xs (records row₀)
  all_there h =
      let a = w.below in
      let all : k ≡ (write_answer xs (length (records row₀))).count = (let n = ap (λ (x : Logged). x.count) ea in omega (arith, n, a, h)) in
      ap (λ (n : ℕ). filled (runs xs) n (records row₀)) all ∙ log_filled xs (records row₀)

  pub written : answer.count ≤ k → row ≡ holding row₀ (log_after xs (records row₀))
  written h = w.stands ∙ ap (holding row₀) (all_there h)

  pub written_records : answer.count ≤ k → records row ≡ log_after xs (records row₀)
  written_records h = now_there ∙ all_there h
