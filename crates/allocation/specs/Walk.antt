-- The walk, as the list of its steps, and its answer within a step limit. Tasks are in planning order.
use Rattle.std.specs.Prelude.{ℕ, zero, suc, ◌+◌, max, min, ◌≡◌, Bool, true, false, cond, ◌&&◌, ◌||◌, List, [], ◌∷◌, ◌++◌, eqb, leb, ltb, length, take, replicate}
use Rattle.allocation.specs.Placement.{Problem, permits, load, rejected, total, excess}
use Rattle.allocation.specs.Rule.{tried}

-- the n numbers from k upward
unfoldable pub up_from : ℕ → ℕ → List ℕ
up_from k zero = []
up_from k (suc n) = k ∷ up_from (suc k) n

-- a task's choices in their order: the cores from 1 upward, then leaving it out
unfoldable pub choices : ℕ → List ℕ
choices m = up_from 1 m ++ (0 ∷ [])

-- how many choices have been tried once c has been
unfoldable pub tried_by : ℕ → ℕ → ℕ
tried_by m c = cond (eqb c 0) (m + 1) c

-- A step is an entered choice: of the last task, which completes a placement that is then stored, or of one before it.
pub data Step : Type 0 where
  inner : Step
  leaf : List ℕ → Step

-- the step that makes the choices so far p, with k tasks still to place
unfoldable pub step_into : ℕ → List ℕ → Step
step_into zero p = leaf p
step_into (suc k) p = inner

-- the placement stored after some steps, where q was stored before them
unfoldable pub stored_after : List ℕ → List Step → List ℕ
stored_after q [] = q
stored_after q (inner ∷ t) = stored_after q t
stored_after q (leaf p ∷ t) = stored_after p t

-- the incumbent bound (the paper's mark to beat) after some steps, where it was b before them
unfoldable pub bound_after : Problem → ℕ → List Step → ℕ
bound_after P b [] = b
bound_after P b (inner ∷ t) = bound_after P b t
bound_after P b (leaf p ∷ t) = bound_after P (rejected P p) t

-- no step completes a placement
abbrev pub NoLeaf : List Step → Type 0
NoLeaf [] = Unit {0}
NoLeaf (inner ∷ t) = NoLeaf t
NoLeaf (leaf p ∷ t) = ⊥

-- p is the last placement that the steps complete
pub record LastLeaf (steps : List Step) (p : List ℕ) : Type 0 where
  pub earlier : List Step
  pub later : List Step
  pub split : steps ≡ earlier ++ (leaf p ∷ later)
  pub none-later : NoLeaf later

-- The walk's answer: the stored placement, its rejected demand, the steps made, and whether the limit ran out before the walk's end.
pub record WalkAnswer : Type 0 where
  pub placement : List ℕ
  pub rejected : ℕ
  pub steps : ℕ
  pub spent : Bool

module _ (P : Problem) where
  -- the next task may take choice c: it is left out, or core c is permitted and its load stays at most H
  abbrev pub fits : List ℕ → ℕ → Bool
  fits p c = eqb c 0 || (permits P (length p) c && leb (load P c (p ++ (c ∷ []))) P.capacity)

  -- the larger of the rejected demand, this choice included, and the excess is below the bound
  abbrev pub improves : List ℕ → ℕ → ℕ → Bool
  improves p c bound = ltb (max (rejected P (p ++ (c ∷ []))) (excess P)) bound

  -- the entry rule: whether choice c is entered
  unfoldable pub entered : List ℕ → ℕ → ℕ → Bool
  entered p c bound = fits p c && tried P p c && improves p c bound

  -- the steps of trying the choices cs in turn; `below` gives those that follow an entered one, with k tasks still to place
  unfoldable pub try_all : ℕ → (List ℕ → ℕ → List Step) → List ℕ → List ℕ → ℕ → List Step
  try_all k below p [] bound = []
  try_all k below p (c ∷ cs) bound =
      let t : List Step = elim (entered p c bound) [ true ↦ step_into k (p ++ (c ∷ [])) ∷ below (p ++ (c ∷ [])) bound | false ↦ [] ] in
      t ++ try_all k below p cs (bound_after P bound t)

  -- the steps that follow the choices p, with k tasks still to place
  unfoldable pub visit : ℕ → List ℕ → ℕ → List Step
  visit zero p bound = []
  visit (suc k) p bound = try_all k (λ p' b. visit k p' b) p (choices P.cores) bound

  -- the complete walk: the bound begins at the total demand plus 1, and the root is no step
  unfoldable pub trace : List Step
  trace = visit (length P.demands) [] (total P + 1)

  -- what is stored once the walk's first `limit` steps have been made: every task left out, if nothing was
  unfoldable pub stored : ℕ → List ℕ
  stored limit = stored_after (replicate (length P.demands) 0) (take limit trace)

  -- the answer within a step limit: spent exactly if the complete walk has more steps than the limit
  unfoldable pub answer : ℕ → WalkAnswer
  answer limit = record {
    placement = stored limit;
    rejected = rejected P (stored limit);
    steps = min limit (length trace);
    spent = ltb limit (length trace);
  }
