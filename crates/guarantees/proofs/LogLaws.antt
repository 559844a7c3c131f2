-- The run log keeps what is demanded of it.
use Rattle.std.specs.Prelude.{Ok}
use Prim.Native.Nat.{ℕ, ◌≤◌}
use mathlib.Core.Path.{◌≡◌, refl, sym, ◌∙◌, ap}
use mathlib.Core.List.{List, ◌++◌, append-nil}
use native.Mathlib.Omega.{arith}
use lib.ListN.{length, drop, drop_of_length-le}
use Rattle.refusal.specs.Causes.{number_in}
use Rattle.refusal.proofs.ConditionLaws.{no_number}
use Rattle.runs.specs.declared.Run.{Run}
use Rattle.runs.specs.Runs.{runs, expand}
use Rattle.runs.proofs.RunLaws.{expand-runs, total_runs}
use Rattle.runs.proofs.FitLaws.{runs-all_fit}
use Rattle.runs.proofs.LogLaws.{runs-needed, runs-expand, expand_low, expand_few}
use Rattle.recording.specs.Tests.{write_outcome, log_after}
use Rattle.recording.proofs.WriteLaws.{log_accepted}
use Rattle.recording.proofs.PromiseLaws.{write_decides, writes, writable, write_accepts, write_said, all_low, low_entry, log_front}
use Rattle.replay.specs.Tests.{expand_outcome, row_after}
use Rattle.replay.proofs.PaintLaws.{expand_accepted, expand_accepts}
use Rattle.replay.proofs.PromiseLaws.{expand_decides, expands, expand_said, row_accepted}
use Rattle.guarantees.specs.Logging.{write_number, expand_number, needed_of, LogDemand}

-- ---- there and back

module _ (answers : List ℕ) (records : List Run) (bytes : List ℕ) (z : write_number answers records ≡ 0) (e : length bytes ≡ length answers) where
  wrote : write_outcome answers (length records) ≡ Ok tt
  wrote = sym (write_said answers (length records)) ∙ no_number _ z

  front : needed_of answers records ≡ runs answers
  front = log_front answers records wrote

  expanded : expand_outcome (runs answers) (length bytes) ≡ Ok tt
  expanded =
      let w = writable answers (length records) wrote in
      expand_accepts (runs answers) (length bytes) (runs-all_fit answers (all_low answers w.low) w.few) (total_runs 0 answers ∙ sym e)

  back_accepted : expand_number (needed_of answers records) bytes ≡ 0
  back_accepted = ap (λ (rs : List Run). expand_number rs bytes) front ∙ ap number_in (expand_said (runs answers) (length bytes) ∙ expanded)

  back_same : row_after (needed_of answers records) bytes ≡ answers
  back_same = ap (λ (rs : List Run). row_after rs bytes) front ∙ row_accepted (runs answers) bytes expanded ∙ expand-runs 0 answers

-- ---- the other way round

module _ (records : List Run) (bytes : List ℕ) (row : List Run) (z : expand_number records bytes ≡ 0) (e : length row ≡ length records) where
  filled : expand_outcome records (length bytes) ≡ Ok tt
  filled = sym (expand_said records (length bytes)) ∙ no_number _ z

  there : row_after records bytes ≡ expand records
  there = row_accepted records bytes filled

  again : runs (expand records) ≡ records
  again = runs-expand records (expand_accepted records (length bytes) filled).0

  written : write_outcome (expand records) (length row) ≡ Ok tt
  written =
      let fit = (expand_accepted records (length bytes) filled).0 in
      let n = runs-needed (expand records) in
      let m = ap (λ (rs : List Run). length rs) again in
      write_accepts (expand records) (length row) (record { few = expand_few records fit; low = low_entry (expand records) (expand_low records fit); fits = omega (arith, n, m, e) })

  forth_accepted : write_number (row_after records bytes) row ≡ 0
  forth_accepted = ap (λ (ys : List ℕ). write_number ys row) there ∙ ap number_in (write_said (expand records) (length row) ∙ written)

  forth_same : log_after (row_after records bytes) row ≡ records
  forth_same =
      let short : length row ≤ length records = omega (arith, e) in
      ap (λ (ys : List ℕ). log_after ys row) there ∙ log_accepted (expand records) row written ∙ ap (λ (rs : List Run). rs ++ drop (length rs) row) again
      ∙ ap (λ (rs : List Run). records ++ rs) (drop_of_length-le row short) ∙ append-nil records

pub log_demand : LogDemand
log_demand = record {
  writing = λ answers records. (write_decides answers (length records) refl, writes answers records refl refl);
  expanding = λ records bytes. (expand_decides records (length bytes) refl, expands records bytes refl refl);
  back = λ answers records bytes z e. (back_accepted answers records bytes z e, back_same answers records bytes z e);
  forth = λ records bytes row z e. (forth_accepted records bytes row z e, forth_same records bytes row z e);
}
