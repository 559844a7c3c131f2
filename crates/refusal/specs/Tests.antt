-- Tests made in order: the first whose condition holds gives the refusal.
use Rattle.std.specs.Prelude.{ℕ, zero, suc, Bool, true, false, List, [], ◌∷◌, ltb, Ok, Err}
use Rattle.refusal.specs.declared.Cause.{Cause}
use Rattle.refusal.specs.Outcome.{Outcome}

infixr 30 ◌then◌
-- the outcome of the first test, or of the second if the first refuses nothing
unfoldable pub ◌then◌ : Outcome → Outcome → Outcome
(Ok _) then second = second
(Err cause) then second = Err cause

-- refused if the condition of the cause holds
unfoldable pub refuse_if : Bool → Cause → Outcome
refuse_if true cause = Err cause
refuse_if false cause = Ok tt

-- refused if a place is named: 0 names none
unfoldable pub refuse_at : ℕ → (ℕ → Cause) → Outcome
refuse_at zero cause = Ok tt
refuse_at (suc k) cause = Err (cause (suc k))

-- the outcome of all tests of a list, made in order
unfoldable pub in_order : List Outcome → Outcome
in_order [] = Ok tt
in_order (test ∷ tests) = test then in_order tests

-- refused if a lent output has no room for what is to stand in it
abbrev pub room_test : Cause → ℕ → ℕ → Outcome
room_test cause size room = refuse_if (ltb room size) cause

-- what a call answers, by the outcome of its tests: what it says of a refusal, or its answer to what was accepted
unfoldable pub by_outcome : {A B : Type 0} → (Cause → A) → (B → A) → Outcome → B → A
by_outcome refused answer (Err cause) given = refused cause
by_outcome refused answer (Ok _) given = answer given
