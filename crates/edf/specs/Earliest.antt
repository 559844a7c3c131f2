-- The choice of earliest deadline first. The runner and the book make it of their own claims.
use Rattle.std.specs.Prelude.{ℕ, ◌≤◌, ◌≡◌, ◌⊎◌, Bool, true, false, cond, List, [], ◌∷◌, ltb}
use Rattle.edf.specs.declared.Claim.{Claim}

-- an element put in front of a list if a test holds
abbrev pub cons_if : {A : Type 0} → Bool → A → List A → List A
cons_if true x xs = x ∷ xs
cons_if false x xs = xs

-- of two claims the one with the earlier deadline, the first among equals
abbrev pub sooner : Claim → Claim → Claim
sooner c d = cond (ltb d.deadline c.deadline) d c

-- of a list of claims the one with the earliest deadline, the first among equals
abbrev pub soonest : Claim → List Claim → Claim
soonest c [] = c
soonest c (d ∷ ds) = soonest (sooner c d) ds

-- its task; 0 if there is no claim
abbrev pub earliest : List Claim → ℕ
earliest [] = 0
earliest (c ∷ cs) = (soonest c cs).task

-- a claim is one of a list
abbrev pub In : Claim → List Claim → Type 0
In c [] = ⊥
In c (d ∷ ds) = (c ≡ d) ⊎ In c ds

-- What the choice has to be: a claim of the list with the least deadline, and of those with the lowest number.
pub record IsEarliest (cs : List Claim) (c : Claim) : Type 0 where
  pub claims : In c cs
  pub least : (d : Claim) → In d cs → c.deadline ≤ d.deadline
  pub lowest : (d : Claim) → In d cs → d.deadline ≡ c.deadline → c.task ≤ d.task

-- j names the earliest of some claims: it is the task of such a claim, or 0 if there is no claim
abbrev pub NamesEarliest : List Claim → ℕ → Type 0
NamesEarliest cs j = ((cs ≡ []) × (j ≡ 0)) ⊎ ((c : Claim) × IsEarliest cs c × (j ≡ c.task))

-- and so do the tasks of a list at every tick, each of the claims made there
abbrev pub EachNamesEarliest : List (List Claim) → List ℕ → Type 0
EachNamesEarliest [] [] = Unit {0}
EachNamesEarliest [] (j ∷ js) = ⊥
EachNamesEarliest (cs ∷ css) [] = ⊥
EachNamesEarliest (cs ∷ css) (j ∷ js) = NamesEarliest cs j × EachNamesEarliest css js
