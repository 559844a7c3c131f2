-- The walk in plain words: the only list of steps that the paper's sentences allow. A step is told by the choices made with it, those of the
-- tasks before and its own. Nothing of the walk's recursion is used.
use Rattle.std.specs.Prelude.{ℕ, ◌+◌, ◌≤◌, ◌<◌, ◌≡◌, cond, List, [], ◌∷◌, ◌++◌, map, ◌⊎◌, eqb, length}
use Rattle.allocation.specs.Placement.{Problem}
use Rattle.allocation.specs.Best.{Before}
use Rattle.allocation.specs.EntryRule.{Enters, all_demands, demands_with}
use Rattle.allocation.specs.Walk.{inner, leaf, trace}

-- depth first: a step comes before those that go on from it, and before those with a later choice where the two first differ
abbrev pub Sooner : List ℕ → List ℕ → Type 0
Sooner p q = ((c : ℕ) × (r : List ℕ) × (q ≡ p ++ (c ∷ r))) ⊎ Before p q

-- p is one of these steps
abbrev pub Among : List ℕ → List (List ℕ) → Type 0
Among p [] = ⊥
Among p (q ∷ steps) = (p ≡ q) ⊎ Among p steps

module _ (P : Problem) where
  -- the incumbent bound after some steps, where it was b before them: the last task's choice makes it what that placement leaves out
  unfoldable pub incumbent_from : ℕ → List (List ℕ) → ℕ
  incumbent_from b [] = b
  incumbent_from b (p ∷ steps) = incumbent_from (cond (eqb (length p) (length P.demands)) (demands_with P 0 p) b) steps

  -- it begins at all demands plus 1
  abbrev pub incumbent : List (List ℕ) → ℕ
  incumbent made = incumbent_from (all_demands P + 1) made

-- The walk may go on with s, once the steps `made` have been made.
pub record MayFollow (P : Problem) (made : List (List ℕ)) (s : List ℕ) : Type 0 where
  -- s is a choice, a core or 0, for the task after the choices of a step made, or for the first task: the root is no step.
  pub so_far : List ℕ
  pub choice : ℕ
  pub is : s ≡ so_far ++ (choice ∷ [])
  pub from : Among so_far ([] ∷ made)
  pub task : length so_far < length P.demands
  pub core : choice ≤ P.cores
  -- It keeps the entry rule.
  pub enters : Enters P so_far choice (incumbent P made)
  -- It has not been passed: all steps made come before it.
  pub ahead : (t : List ℕ) → Among t made → Sooner t s

-- The next step is the first of all that may follow.
pub record Next (P : Problem) (made : List (List ℕ)) (s : List ℕ) : Type 0 where
  pub may : MayFollow P made s
  pub first : (q : List ℕ) → MayFollow P made q → (s ≡ q) ⊎ Sooner s q

-- the steps that follow those made: each is the next one, and after the last none may follow
abbrev pub Follow : Problem → List (List ℕ) → List (List ℕ) → Type 0
Follow P made [] = (s : List ℕ) → MayFollow P made s → ⊥
Follow P made (s ∷ later) = Next P made s × Follow P (made ++ (s ∷ [])) later

-- The walk is depth first: it makes the steps that follow from none, and no other list of steps does follow.
pub record DepthFirst (P : Problem) : Type 0 where
  pub steps : List (List ℕ)
  pub follow : Follow P [] steps
  pub only : (others : List (List ℕ)) → Follow P [] others → others ≡ steps
  -- Those with a choice for every task complete a placement, which is stored.
  pub walked : trace P ≡ map (λ p. cond (eqb (length p) (length P.demands)) (leaf p) inner) steps
