-- What the walk completes is feasible.
use Prim.Native.Nat.{ℕ, zero, suc, ◌+◌, ◌≤◌, ◌<◌, max}
use native.Mathlib.Decide.{ℕ_discrete}
use native.Mathlib.Omega.{arith}
use mathlib.Core.Path.{◌≡◌, refl, ◌∙◌}
use mathlib.Core.Bool.{Bool, true, false, ◌&&◌, and-false}
use mathlib.Core.List.{List, [], ◌∷◌, ◌++◌}
use mathlib.Core.Logic.{dite}
use lib.Dec.{leb}
use lib.ListN.{length, get_or, length-append, get_or-append}
use lib.Seq.{get_or-append_seam}
use borrow.Author.Count.{below_more}
use borrow.Author.Tests.{ltb-true, le-ltb, leb-true, le-leb, ne_eqb}
use Rattle.allocation.specs.Placement.{Problem, permits, Feasible, rejected, load, excess}
use Rattle.numbers.proofs.BoolLaws.{and_left, and_right, and_intro}
use Rattle.numbers.proofs.LoadLaws.{demand_on-other, demand_on_mono}
use Rattle.allocation.specs.Rule.{tried}
use Rattle.allocation.specs.Walk.{Step, step_into, bound_after, fits, improves, entered, try_all, visit, choices}
use Rattle.allocation.proofs.Order.{length-choices, choice_le}
use Rattle.allocation.proofs.Steps.{Leaves, leaves_append, Falling}

-- the beginning of a placement that may still become feasible
pub record Partial (P : Problem) (p : List ℕ) : Type 0 where
  pub core : (k : ℕ) → k < length p → get_or p k 0 ≤ P.cores
  pub permitted : (k : ℕ) → k < length p → 1 ≤ get_or p k 0 → permits P k (get_or p k 0) ≡ true
  pub fits : (c : ℕ) → 1 ≤ c → c ≤ P.cores → load P c p ≤ P.capacity

-- a fact of each entry holds with one entry more
snoc_each : (Q : ℕ → ℕ → Type 0) (p : List ℕ) (c : ℕ) → ((k : ℕ) → k < length p → Q k (get_or p k 0)) → Q (length p) c
    → (k : ℕ) → k < length (p ++ (c ∷ [])) → Q k (get_or (p ++ (c ∷ [])) k 0)
snoc_each Q p c h e k l =
    below_more (λ (j : ℕ). Q j (get_or (p ++ (c ∷ [])) j 0)) (length p)
    (λ j i. rw get_or-append (h j i)) (rw get_or-append_seam e) k (omega (arith, length-append p (c ∷ [])))

-- the step into choice c and the steps that follow it
abbrev pub into : ℕ → (List ℕ → ℕ → List Step) → List ℕ → ℕ → ℕ → List Step
into k below p c b = step_into k (p ++ (c ∷ [])) ∷ below (p ++ (c ∷ [])) b

module _ (P : Problem) where
  -- a placement of every task
  pub partial_whole : {p : List ℕ} → Partial P p → length p ≡ length P.demands → Feasible P p
  partial_whole h e = record { whole = e; core = h.core; permitted = h.permitted; fits = h.fits }

  -- a core that the task may run on and that has room for it passes the test of a choice
  pub fits_so : (p : List ℕ) (c : ℕ) → (1 ≤ c → (permits P (length p) c ≡ true) × (load P c (p ++ (c ∷ [])) ≤ P.capacity)) → fits P p c ≡ true
  fits_so p zero h = refl
  fits_so p (suc c) h =
      let f = h (omega arith) in rw (ne_eqb (suc c) 0 (λ q. omega arith)) (and_intro _ _ f.0 (le-leb _ _ f.1))

  -- what the test says
  module _ (p : List ℕ) (c : ℕ) (e : fits P p c ≡ true) where
    pub core_fits : 1 ≤ c → (permits P (length p) c ≡ true) × (load P c (p ++ (c ∷ [])) ≤ P.capacity)
    core_fits i =
        let s = permits P (length p) c in
        let u = leb (load P c (p ++ (c ∷ []))) P.capacity in
        let g : (s && u) ≡ true = rw (ne_eqb c 0 (λ q. omega arith)) at e in
        (and_left s u g, leb-true _ _ (and_right s u g))

    pub partial_snoc : c ≤ P.cores → Partial P p → Partial P (p ++ (c ∷ []))
    partial_snoc l h = record {
      core = snoc_each (λ k x. x ≤ P.cores) p c h.core l;
      permitted = snoc_each (λ k x. 1 ≤ x → permits P k x ≡ true) p c h.permitted (λ i. (core_fits i).0);
      fits = λ d i j.
          dite (ℕ_discrete c d) (λ q. rw (← q) (core_fits (omega arith)).1)
          (λ q. rw (demand_on-other d c q) (h.fits d i j));
    }

  -- and what the entry rule says
  module _ (p : List ℕ) (c b : ℕ) (e : entered P p c b ≡ true) where
    both : (fits P p c && tried P p c) ≡ true
    unfolding entered
    both = and_left (fits P p c && tried P p c) (improves P p c b) e

    pub entered-fits : fits P p c ≡ true
    entered-fits = and_left (fits P p c) (tried P p c) both

    pub entered-tried : tried P p c ≡ true
    entered-tried = and_right (fits P p c) (tried P p c) both

    pub entered_rejects : rejected P (p ++ (c ∷ [])) < b
    unfolding entered
    entered_rejects = omega (arith, ltb-true _ b (and_right (fits P p c && tried P p c) (improves P p c b) e))

  -- no choice improves on a bound that is at most the excess, or at most what is rejected already
  entered_not : (p : List ℕ) (c b : ℕ) → b ≤ max (rejected P (p ++ (c ∷ []))) (excess P) → entered P p c b ≡ false
  unfolding entered
  entered_not p c b h = rw (le-ltb (max (rejected P (p ++ (c ∷ []))) (excess P)) b h) (and-false (fits P p c && tried P p c))

  module _ (k : ℕ) (below : List ℕ → ℕ → List Step) where
    pub try_skip : (p : List ℕ) (c : ℕ) (cs : List ℕ) (b : ℕ) → entered P p c b ≡ false → try_all P k below p (c ∷ cs) b ≡ try_all P k below p cs b
    unfolding try_all bound_after
    try_skip p c cs b e = rw e

    pub try_enter : (p : List ℕ) (c : ℕ) (cs : List ℕ) (b : ℕ) → entered P p c b ≡ true
        → try_all P k below p (c ∷ cs) b
        ≡ into k below p c b ++ try_all P k below p cs (bound_after P b (into k below p c b))
    unfolding try_all
    try_enter p c cs b e = rw e

    try_none : (p cs : List ℕ) (b : ℕ) → ((c : ℕ) → b ≤ max (rejected P (p ++ (c ∷ []))) (excess P)) → try_all P k below p cs b ≡ []
    unfolding try_all
    try_none p [] b h = refl
    try_none p (c ∷ cs) b h = try_skip p c cs b (entered_not p c b (h c)) ∙ try_none p cs b h

    pub try_over : (p cs : List ℕ) (b : ℕ) → b ≤ excess P → try_all P k below p cs b ≡ []
    try_over p cs b h = try_none p cs b (λ c. omega arith)

    pub try_closed : (p cs : List ℕ) (b : ℕ) → b ≤ rejected P p → try_all P k below p cs b ≡ []
    try_closed p cs b h = try_none p cs b (λ c. omega (arith, demand_on_mono 0 P.demands p (c ∷ [])))

    -- a property of what each entered choice completes is one of all that the choices complete
    try_sound : (Q : ℕ → List ℕ → Type 0) (p cs : List ℕ)
        → ((j b : ℕ) → j < length cs → entered P p (get_or cs j 0) b ≡ true → Leaves P Q b (into k below p (get_or cs j 0) b))
        → (b : ℕ) → Leaves P Q b (try_all P k below p cs b)
    unfolding try_all
    try_sound Q p [] h b = tt
    try_sound Q p (c ∷ cs) h b = go (entered P p c b) refl (try_sound Q p cs (λ j b' l e. h (suc j) b' (omega arith) e))
      where
        go : (s : Bool) → entered P p c b ≡ s → ((b' : ℕ) → Leaves P Q b' (try_all P k below p cs b'))
            → Leaves P Q b (try_all P k below p (c ∷ cs) b)
        go false e rest = rw (try_skip p c cs b e) (rest b)
        go true e rest = rw (try_enter p c cs b e) (leaves_append P Q b (into k below p c b) _ (h 0 b (omega arith) e) (rest _))

  -- each placement that is stored improves on the bound
  pub visit-falling : (k : ℕ) (p : List ℕ) (b : ℕ) → Falling P b (visit P k p b)
  unfolding visit step_into
  visit-falling zero p b = tt
  visit-falling (suc zero) p b = try_sound zero _ _ p (choices P.cores) (λ j b' l e. (entered_rejects p _ b' e, tt)) b
  visit-falling (suc (suc k)) p b = try_sound (suc k) _ _ p (choices P.cores) (λ j b' l e. visit-falling (suc k) _ b') b

  -- the step to the choices p, and those that follow it
  pub into_sound : (k : ℕ) (p : List ℕ) (b : ℕ) → length p + k ≡ length P.demands → Partial P p
      → Leaves P (λ _. Feasible P) b (step_into k p ∷ visit P k p b)
  unfolding step_into visit
  into_sound zero p b l h = (partial_whole h (omega arith), tt)
  into_sound (suc k) p b l h =
      try_sound k (λ p' b'. visit P k p' b') (λ _. Feasible P) p (choices P.cores)
      (λ j b' i e. let c = get_or (choices P.cores) j 0 in
      into_sound k (p ++ (c ∷ [])) b' (omega (arith, length-append p (c ∷ [])))
      (partial_snoc p c (entered-fits p c b' e) (choice_le P.cores j (omega (arith, length-choices P.cores))) h)) b
