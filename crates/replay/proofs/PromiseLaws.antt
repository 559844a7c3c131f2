-- The expander refuses by its conditions, and keeps its promise.
use Rattle.std.specs.Prelude.{Ok, Err}
use mathlib.Core.Path.{◌≡◌, refl, sym, ◌∙◌, ap, subst}
use mathlib.Core.Bool.{not}
use mathlib.Core.List.{List, [], ◌∷◌, ◌++◌, append-nil}
use mathlib.Core.Logic.{⊎_elim}
use Prim.Native.Nat.{ℕ, ◌≤◌}
use native.Mathlib.Omega.{arith}
use lib.Dec.{eqb}
use lib.ListN.{length, drop_of_length-le}
use Rattle.numbers.proofs.BoundLaws.{unequal_exactly, not_unequal}
use Rattle.refusal.specs.Causes.{number_in}
use Rattle.refusal.specs.Conditions.{only, at, Reports, Tested, Decides}
use Rattle.refusal.specs.Tests.{refuse_if, refuse_at}
use Rattle.refusal.specs.declared.Cause.{Cause}
use Rattle.refusal.specs.declared.Cause.TheVariants.{Record}
use Rattle.refusal.proofs.TestLaws.{outcome_cases}
use Rattle.refusal.proofs.ConditionLaws.{test_only, test_at, then_reports, decides, no_number, some_number}
use Rattle.runs.specs.declared.Run.{Run}
use Rattle.runs.specs.declared.Logged.{Logged}
use Rattle.runs.specs.Runs.{expand, total}
use Rattle.runs.specs.Fit.{first_unfit}
use Rattle.runs.specs.Log.{lengths_before, Unfit, LogOf}
use Rattle.runs.proofs.RunLaws.{length-expand}
use Rattle.runs.proofs.LogLaws.{fit_log, lengths_all}
use Rattle.runs.proofs.UnfitLaws.{unfit_places, unfit_exactly}
use Rattle.runs.proofs.LentLaws.{logged_outcome, logged_accepted, logged_refused, exit_accepted, exit_refused}
use Rattle.replay.specs.Tests.{expand_outcome, expand_answer, row_after}
use Rattle.replay.specs.Limits.{Expandable, expand_conditions}
use Rattle.replay.specs.Promise.{Expands}
use Rattle.replay.proofs.PaintLaws.{expand_accepted}

-- ---- refusals

module _ (rs : List Run) (room : ℕ) where
  expand_reports : Reports (expand_conditions rs room) (expand_outcome rs room)
  unfolding expand_outcome
  expand_reports =
      then_reports (at 25 (Unfit rs) (length rs) ∷ []) (only 25 (lengths_before rs (length rs) ≡ room → ⊥) ∷ [])
      (subst (λ (k : ℕ). Reports (at 25 (Unfit rs) (length rs) ∷ []) (refuse_at k Record)) (sym (unfit_places rs)) (test_at Record (λ k. (refl, refl)) (unfit_exactly rs)))
      (λ _. subst (λ (n : ℕ). Reports (only 25 (n ≡ room → ⊥) ∷ []) (refuse_if (not (eqb (total rs) room)) (Record 0))) (sym (lengths_all rs)) (test_only (Record 0) refl (unequal_exactly (total rs) room)))

  expand-tested : Tested (Expandable rs room) (expand_conditions rs room) (expand_outcome rs room)
  expand-tested = record {
    reports = expand_reports;
    valid = (
      λ n. record { fit = n.0; adds = not_unequal _ _ n.1.0 },
      λ v. (v.fit, (λ n. n v.adds, tt)),
    );
  }

  said : {answer : Logged} → answer ≡ expand_answer rs room → answer.outcome ≡ expand_outcome rs room
  unfolding expand_answer
  said e = ap (λ (a : Logged). a.outcome) e ∙ logged_outcome (expand_outcome rs room) (total rs)

  pub expand_decides : {answer : Logged} → answer ≡ expand_answer rs room → Decides (Expandable rs room) (expand_conditions rs room) answer.outcome
  expand_decides e = subst (Decides (Expandable rs room) (expand_conditions rs room)) (sym (said e)) (decides expand-tested)

  pub expand_said : (expand_answer rs room).outcome ≡ expand_outcome rs room
  expand_said = said refl

-- ---- what is promised

-- where a log is accepted the row holds its answers
pub row_accepted : (rs : List Run) (row : List ℕ) → expand_outcome rs (length row) ≡ Ok tt → row_after rs row ≡ expand rs
unfolding row_after
row_accepted rs row e =
    let f = expand_accepted rs (length row) e in
    let l = length-expand rs in
    let short : length row ≤ length (expand rs) = omega (arith, l, f.1) in
    exit_accepted row (expand_outcome rs (length row)) (expand rs) e ∙ ap (λ (ys : List ℕ). expand rs ++ ys) (drop_of_length-le row short) ∙ append-nil (expand rs)

module _ (rs : List Run) (before : List ℕ) {answer : Logged} {after : List ℕ} (ea : answer ≡ expand_answer rs (length before)) (eo : after ≡ row_after rs before) where
  counts : answer.count ≡ (expand_answer rs (length before)).count
  counts = ap (λ (a : Logged). a.count) ea

  module _ (e : expand_outcome rs (length before) ≡ Ok tt) where
    fit : (first_unfit rs ≡ 0) × (total rs ≡ length before)
    fit = expand_accepted rs (length before) e

    all-filled : answer.count ≡ length before
    unfolding expand_answer
    all-filled = counts ∙ logged_accepted (expand_outcome rs (length before)) (total rs) e ∙ fit.1

    stands : after ≡ expand rs
    stands = eo ∙ row_accepted rs before e

    log_there : LogOf after rs
    log_there = subst (λ (ys : List ℕ). LogOf ys rs) (sym stands) (fit_log rs fit.0)

    long_there : length after ≡ length before
    long_there = ap (λ (l : List ℕ). length l) stands ∙ length-expand rs ∙ fit.1

  module _ (c : Cause) (e : expand_outcome rs (length before) ≡ Err c) where
    none : answer.count ≡ 0
    unfolding expand_answer
    none = counts ∙ logged_refused (expand_outcome rs (length before)) (total rs) c e

    kept : after ≡ before
    unfolding row_after
    kept = eo ∙ exit_refused before (expand_outcome rs (length before)) (expand rs) c e

  accepted : number_in answer.outcome ≡ 0 → expand_outcome rs (length before) ≡ Ok tt
  accepted z = sym (said rs (length before) ea) ∙ no_number answer.outcome z

  pub expands : Expands rs before (number_in answer.outcome) answer.count after
  expands = record {
    refused = λ n.
        let r = some_number answer.outcome n in
        let e = sym (said rs (length before) ea) ∙ r.1 in
        (none r.0 e, kept r.0 e);
    counts = λ z. all-filled (accepted z);
    log = λ z. log_there (accepted z);
    long =
        ⊎_elim (λ (e : expand_outcome rs (length before) ≡ Ok tt). long_there e)
        (λ (e : (c : Cause) × (expand_outcome rs (length before) ≡ Err c)). ap (λ (l : List ℕ). length l) (kept e.0 e.1))
        (outcome_cases (expand_outcome rs (length before)));
  }
