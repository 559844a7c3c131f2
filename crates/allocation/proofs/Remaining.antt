-- What is left of the walk, seen from two nested loops: the outer over tasks, the inner over choices.
-- The state: `path`, whose first d entries are the choices made; j, how many choices of task d have been tried; b, the bound.
use Prim.Native.Nat.{ℕ, zero, suc, ◌+◌, ◌-◌, ◌≤◌, ◌<◌}
use native.Mathlib.Nat.{le_refl}
use native.Mathlib.Omega.{arith}
use mathlib.Core.Path.{◌≡◌, refl, ap, ◌∙◌}
use mathlib.Core.Bool.{true, false}
use mathlib.Core.List.{List, [], ◌∷◌, ◌++◌, append-nil, append_assoc}
use lib.ListN.{length, get_or, take, drop, set, drop_of_length-le}
use lib.Seq.{drop-cons, take-set-le, take-suc-set, take-take, get_or-take, get_or-set_same}
use Rattle.allocation.specs.Placement.{Problem, total, rejected, excess}
use Rattle.allocation.specs.Walk.{Step, inner, leaf, step_into, bound_after, entered, try_all, visit, choices, tried_by, trace}
use Rattle.allocation.proofs.Order.{length-choices, tried_by_choice}
use Rattle.allocation.proofs.Steps.{bound_after-append}
use Rattle.allocation.proofs.Sound.{try_skip, try_enter, try_over, try_closed}

-- ---- the steps that are left

module _ (P : Problem) where
  abbrev m : ℕ
  m = P.cores

  -- of task d, from its choice number j on
  level : List ℕ → ℕ → ℕ → ℕ → List Step
  level path d j b =
      let k = length P.demands - suc d in
      try_all P k (λ p' b'. visit P k p' b') (take d path) (drop j (choices m)) b

  -- of the tasks before d, from their next choices on
  backlog : List ℕ → ℕ → ℕ → List Step
  backlog path zero b = []
  backlog path (suc d) b =
      let t = level path d (tried_by m (get_or path d 0)) b in
      t ++ backlog path d (bound_after P b t)

  pub remaining : List ℕ → ℕ → ℕ → ℕ → List Step
  remaining path d j b = level path d j b ++ backlog path d (bound_after P b (level path d j b))

  -- only the choices made matter
  pub remaining_take : (a a' : List ℕ) (d j b : ℕ) → take d a ≡ take d a' → remaining a d j b ≡ remaining a' d j b
  unfolding remaining backlog level
  remaining_take a a' zero j b e = refl
  remaining_take a a' (suc d) j b e =
      let g : get_or a d 0 ≡ get_or a' d 0 = cc (get_or-take (suc d) a d 0 (le_refl _), get_or-take (suc d) a' d 0 (le_refl _)) in
      let h : take d a ≡ take d a' = cc (take-take d (suc d) a (omega arith), take-take d (suc d) a' (omega arith)) in
      rw (e, g) (ap (λ (l : List Step). level a' (suc d) j b ++ l) (remaining_take a a' d (tried_by m (get_or a' d 0)) _ h))

  -- before the first step
  pub remaining_start : (path : List ℕ) → 0 < length P.demands → remaining path 0 0 (total P + 1) ≡ trace P
  unfolding remaining backlog level trace visit
  remaining_start path h = append-nil (level path 0 0 (total P + 1)) ∙ go (length P.demands) h
    where
      go : (n : ℕ) → 0 < n → try_all P (n - 1) (λ p' b'. visit P (n - 1) p' b') [] (choices m) (total P + 1) ≡ visit P n [] (total P + 1)
      go zero l = absurd (omega arith)
      go (suc n) l = let e : suc n - 1 ≡ n = omega arith in rw e

  -- all choices of task d have been tried
  level_done : (path : List ℕ) (d j b : ℕ) → m < j → level path d j b ≡ []
  unfolding level try_all
  level_done path d j b h = rw (drop_of_length-le (choices m) {i = j} (omega (arith, length-choices m)))

  pub remaining_back : (path : List ℕ) (d j b : ℕ) → m < j → remaining path (suc d) j b ≡ remaining path d (tried_by m (get_or path d 0)) b
  unfolding remaining backlog bound_after
  remaining_back path d j b h = rw (level_done path (suc d) j b h)

  pub remaining_end : (path : List ℕ) (j b : ℕ) → m < j → remaining path 0 j b ≡ []
  unfolding remaining backlog
  remaining_end path j b h = rw (level_done path 0 j b h)

  -- nothing is left where the bound is at most the excess
  module _ (path : List ℕ) (b : ℕ) (h : b ≤ excess P) where
    level_over : (d j : ℕ) → level path d j b ≡ []
    unfolding level
    level_over d j = try_over P _ _ (take d path) (drop j (choices m)) b h

    backlog_over : (d : ℕ) → backlog path d b ≡ []
    unfolding backlog bound_after
    backlog_over zero = refl
    backlog_over (suc d) = rw (level_over d (tried_by m (get_or path d 0))) (backlog_over d)

    pub remaining_over : (d j : ℕ) → remaining path d j b ≡ []
    unfolding remaining bound_after
    remaining_over d j = rw (level_over d j) (backlog_over d)

  -- no choice of task d is left where the bound is at most what is rejected already
  pub remaining_closed : (path : List ℕ) (d j b : ℕ) → b ≤ rejected P (take d path) → remaining path d j b ≡ remaining path d (m + 1) b
  unfolding remaining level
  remaining_closed path d j b h = rw (try_closed P _ _ (take d path) (drop j (choices m)) b h, try_closed P _ _ (take d path) (drop (m + 1) (choices m)) b h)

  -- choice number j of task d
  module _ (path : List ℕ) (d j b : ℕ) (within : j ≤ m) where
    abbrev c : ℕ
    c = get_or (choices m) j 0

    next : drop j (choices m) ≡ c ∷ drop (suc j) (choices m)
    next = drop-cons (choices m) j 0 (omega (arith, length-choices m))

    -- it is not entered
    pub remaining_skip : entered P (take d path) c b ≡ false → remaining path d j b ≡ remaining path d (suc j) b
    unfolding remaining level
    remaining_skip e = rw (next, try_skip P _ _ (take d path) c (drop (suc j) (choices m)) b e)

    -- it is entered, and d is the last task
    pub remaining_leaf : suc d ≡ length P.demands → entered P (take d path) c b ≡ true
        → remaining path d j b ≡ leaf (take d path ++ (c ∷ [])) ∷ remaining path d (suc j) (rejected P (take d path ++ (c ∷ [])))
    unfolding remaining level step_into visit bound_after
    remaining_leaf l e =
        let z : length P.demands - suc d ≡ 0 = omega arith in
        rw (z, next, try_enter P 0 (λ p' b'. visit P 0 p' b') (take d path) c (drop (suc j) (choices m)) b e)

    level_enter : d < length path → suc d < length P.demands → entered P (take d path) c b ≡ true
        → let v = level (set path d c) (suc d) 0 b in
        level path d j b ≡ inner ∷ (v ++ level path d (suc j) (bound_after P b v))
    unfolding level visit step_into bound_after
    level_enter i l e =
        let z : length P.demands - suc d ≡ suc (length P.demands - suc (suc d)) = omega arith in
        rw (take-suc-set path d c i, z, next, try_enter P _ _ (take d path) c (drop (suc j) (choices m)) b e)

    -- what the child's backlog holds
    backlog_child : (b' : ℕ) → d < length path → backlog (set path d c) (suc d) b' ≡ remaining path d (suc j) b'
    unfolding backlog remaining
    backlog_child b' i =
        rw (get_or-set_same path d c 0 i, tried_by_choice m j within)
        (remaining_take (set path d c) path d (suc j) b' (take-set-le d path d c (le_refl d)))

    -- it is entered, and more tasks follow
    pub remaining_descend : d < length path → suc d < length P.demands → entered P (take d path) c b ≡ true
        → remaining path d j b ≡ inner ∷ remaining (set path d c) (suc d) 0 b
    unfolding remaining bound_after
    remaining_descend i l e =
        let v = level (set path d c) (suc d) 0 b in
        rw (level_enter i l e, backlog_child (bound_after P b v) i, bound_after-append P b v)
        (ap (λ (t : List Step). inner ∷ t) (append_assoc v _ _))
