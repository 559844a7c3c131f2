-- What makes a refusal right: the conditions of a call, as one list in the order of their tests.
use Rattle.std.specs.Prelude.{ℕ, ◌≤◌, ◌<◌, ◌≡◌, List, [], ◌∷◌, ◌⊎◌, ◌↔◌, Ok, Err}
use Rattle.numbers.specs.First.{FirstAt}
use Rattle.refusal.specs.Causes.{number_of, place_of, number_in, place_in}
use Rattle.refusal.specs.declared.Cause.{Cause}
use Rattle.refusal.specs.Outcome.{Outcome}

-- One row of the paper's table, under its number: `only 4 P` holds if P does;
-- `at 5 P n` holds if P does at one of the indices below n.
pub data Condition : Type 1 where
  only : ℕ → Type 0 → Condition
  at : ℕ → (ℕ → Type 0) → ℕ → Condition

-- its number
abbrev pub numbered : Condition → ℕ
numbered (only number P) = number
numbered (at number P n) = number

-- The condition holds, at this place: 0 where the paper names none, or else the first such task, slot, pair, answer or record, counted from 1.
abbrev pub HoldsAt : Condition → ℕ → Type 0
HoldsAt (only number P) place = P × (place ≡ 0)
HoldsAt (at number P n) place = FirstAt P n place

-- It does not hold.
abbrev pub Fails : Condition → Type 0
Fails (only number P) = P → ⊥
Fails (at number P n) = (k : ℕ) → k < n → P k → ⊥

-- No condition of the list holds.
abbrev pub None : List Condition → Type 0
None [] = Unit {0}
None (c ∷ cs) = Fails c × None cs

-- The first condition of the list that holds has this number, and holds at this place.
abbrev pub First : List Condition → ℕ → ℕ → Type 0
First [] number place = ⊥
First (c ∷ cs) number place = ((number ≡ numbered c) × HoldsAt c place) ⊎ (Fails c × First cs number place)

-- The outcome gives this number and this place.
abbrev pub Gives : Outcome → ℕ → ℕ → Type 0
Gives outcome number place = (number_in outcome ≡ number) × (place_in outcome ≡ place)

-- A call is accepted, with 0 and 0, exactly if it is valid;
-- it is refused with a number and a place exactly if they are those of the first condition that holds.
pub record Decides (Valid : Type 0) (conditions : List Condition) (outcome : Outcome) : Type 0 where
  pub accepted : Gives outcome 0 0 ↔ Valid
  pub refused : (number place : ℕ) → 1 ≤ number → Gives outcome number place ↔ First conditions number place

-- What an outcome reports of a list of conditions: where it accepts none holds, and a refusal is that of the first that does.
pub record Reports (cs : List Condition) (o : Outcome) : Type 0 where
  pub accepted : o ≡ Ok tt → None cs
  pub refused : (c : Cause) → o ≡ Err c → First cs (number_of c) (place_of c)

-- The tests of a call report its conditions, and none of these holds exactly if the call is valid.
pub record Tested (Valid : Type 0) (cs : List Condition) (o : Outcome) : Type 0 where
  pub reports : Reports cs o
  pub valid : None cs ↔ Valid

-- A lent output is shorter than what is to stand in it.
abbrev pub no_room : ℕ → ℕ → ℕ → Condition
no_room number size room = only number (room < size)
