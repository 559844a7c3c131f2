-- Answer and row of a call on a log, by the outcome of its tests.
use Rattle.std.specs.Prelude.{Ok, Err}
use mathlib.Core.Path.{◌≡◌, refl, sym, ◌∙◌, ap}
use mathlib.Core.List.{List, ◌++◌}
use Prim.Native.Nat.{ℕ, ◌+◌, ◌-◌, ◌≤◌}
use native.Mathlib.Omega.{arith}
use lib.ListN.{length, get_or, drop, length-append, length-drop}
use lib.Seq.{get_or-append-add, get_or-drop}
use Rattle.refusal.specs.Tests.{by_outcome}
use Rattle.refusal.specs.declared.Cause.{Cause}
use Rattle.refusal.specs.Outcome.{Outcome}
use Rattle.runs.specs.Lent.{logged_by, exit_by}

-- the outcome is that of the tests
pub logged_outcome : (o : Outcome) (n : ℕ) → (logged_by o n).outcome ≡ o
unfolding logged_by by_outcome
logged_outcome (Ok _) n = refl
logged_outcome (Err c) n = refl

pub logged_accepted : (o : Outcome) (n : ℕ) → o ≡ Ok tt → (logged_by o n).count ≡ n
unfolding logged_by by_outcome
logged_accepted o n e = rw e

pub logged_refused : (o : Outcome) (n : ℕ) (c : Cause) → o ≡ Err c → (logged_by o n).count ≡ 0
unfolding logged_by by_outcome
logged_refused o n c e = rw e

pub exit_accepted : {A : Type 0} (row : List A) (o : Outcome) (new : List A) → o ≡ Ok tt → exit_by row o new ≡ new ++ drop (length new) row
unfolding exit_by by_outcome
exit_accepted row o new e = rw e

pub exit_refused : {A : Type 0} (row : List A) (o : Outcome) (new : List A) (c : Cause) → o ≡ Err c → exit_by row o new ≡ row
unfolding exit_by by_outcome
exit_refused row o new c e = rw e

-- a row in front of what stands behind it: what is there behind, and the length
pub behind : {A : Type 0} (new row : List A) (k : ℕ) (d : A) → length new ≤ k → get_or (new ++ drop (length new) row) k d ≡ get_or row k d
behind new row k d h =
    let at : length new + (k - length new) ≡ k = omega (arith, h) in
    ap (λ (j : ℕ). get_or (new ++ drop (length new) row) j d) (sym at) ∙ get_or-append-add new (drop (length new) row) (k - length new) d
    ∙ get_or-drop (length new) row (k - length new) d ∙ ap (λ (j : ℕ). get_or row j d) at

pub as_long : {A : Type 0} (new row : List A) → length new ≤ length row → length (new ++ drop (length new) row) ≡ length row
as_long new row h = simp (length-append, length-drop) (omega (arith, h))
