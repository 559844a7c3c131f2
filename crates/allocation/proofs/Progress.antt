-- The walk on its way: the steps made and those that remain are the complete walk.
use Prim.Native.Nat.{ℕ, suc, ◌+◌, ◌≤◌, ◌<◌, min}
use native.Mathlib.Decide.{ℕ_discrete}
use native.Mathlib.Omega.{arith}
use mathlib.Core.Path.{◌≡◌, refl, sym, ap, ◌∙◌}
use mathlib.Core.Bool.{Bool, true, false}
use mathlib.Core.List.{List, [], ◌∷◌, ◌++◌, append-nil}
use mathlib.Core.Logic.{dite}
use lib.Dec.{ltb}
use lib.ListN.{length, get_or, take, set, replicate, length-append}
use lib.Seq.{append_snoc, take_all, take_at}
use borrow.Author.Tests.{lt-ltb, le-ltb}
use Rattle.allocation.specs.Placement.{Problem, total, rejected, excess}
use Rattle.allocation.specs.Walk.{Step, inner, bound_after, stored_after, entered, choices, tried_by, trace, stored, answer, WalkAnswer}
use Rattle.allocation.proofs.Steps.{bound_after-append, stored_after-append}
use Rattle.allocation.proofs.Remaining.{remaining, remaining_start, remaining_skip, remaining_leaf, remaining_descend, remaining_back, remaining_end, remaining_over, remaining_closed, remaining_take}

-- `made` are the steps so far: they account for the bound, the stored placement and the step count.
pub record Progress (P : Problem) (path : List ℕ) (d j b : ℕ) (best : List ℕ) (steps : ℕ) : Type 0 where
  pub made : List Step
  pub whole : trace P ≡ made ++ remaining P path d j b
  pub counts : length made ≡ steps
  pub bounds : bound_after P (total P + 1) made ≡ b
  pub stores : stored_after (replicate (length P.demands) 0) made ≡ best

module _ (P : Problem) where
  abbrev answered : List ℕ → ℕ → Bool → WalkAnswer
  answered best steps spent = record { placement = best; rejected = rejected P best; steps = steps; spent = spent }

  pub progress_start : (path : List ℕ) → 0 < length P.demands → Progress P path 0 0 (total P + 1) (replicate (length P.demands) 0) 0
  unfolding bound_after stored_after
  progress_start path h = record { made = []; whole = sym (remaining_start P path h); counts = refl; bounds = refl; stores = refl }

  module _ {path : List ℕ} {d j b : ℕ} {best : List ℕ} {steps : ℕ} (r : Progress P path d j b best steps) where
    -- the state is another, and the same steps remain
    same : {path' : List ℕ} {d' j' : ℕ} → remaining P path d j b ≡ remaining P path' d' j' b → Progress P path' d' j' b best steps
    same e = record {
      made = r.made;
      whole = r.whole ∙ ap (λ (t : List Step). r.made ++ t) e;
      counts = r.counts;
      bounds = r.bounds;
      stores = r.stores;
    }

    -- only the choices made matter
    pub progress_take : (path' : List ℕ) → take d path ≡ take d path' → Progress P path' d j b best steps
    progress_take path' e = same (remaining_take P path path' d j b e)

    -- no choice improves on what is rejected already
    pub progress_closed : b ≤ rejected P (take d path) → Progress P path d (P.cores + 1) b best steps
    progress_closed h = same (remaining_closed P path d j b h)

    -- the next step, s, is made
    stepped : (s : Step) {path' : List ℕ} {d' j' b' : ℕ} {best' : List ℕ}
        → remaining P path d j b ≡ s ∷ remaining P path' d' j' b'
        → bound_after P b (s ∷ []) ≡ b' → stored_after best (s ∷ []) ≡ best' → Progress P path' d' j' b' best' (suc steps)
    stepped s e f g = record {
      made = r.made ++ (s ∷ []);
      whole = r.whole ∙ ap (λ (t : List Step). r.made ++ t) e ∙ sym (append_snoc r.made s _);
      counts = omega (arith, length-append r.made (s ∷ []), r.counts);
      bounds = rw (bound_after-append, r.bounds) f;
      stores = rw (stored_after-append, r.stores) g;
    }

    -- the answer, where the limit leaves the steps made
    answers : (limit : ℕ) {n : ℕ} {spent : Bool} → take limit (trace P) ≡ r.made → min limit (length (trace P)) ≡ n
        → ltb limit (length (trace P)) ≡ spent → answer P limit ≡ answered best n spent
    unfolding answer stored
    answers limit e f g = rw (e, r.stores, f, g)

    -- the limit is reached, and the walk would go on
    progress_spent : (limit : ℕ) → steps ≡ limit → (s : Step) (u : List Step) → remaining P path d j b ≡ s ∷ u
        → answer P limit ≡ answered best limit true
    progress_spent limit e s u q =
        let w : trace P ≡ r.made ++ (s ∷ u) = r.whole ∙ ap (λ (l : List Step). r.made ++ l) q in
        let l : limit < length (trace P) = omega (arith, ap length w, length-append r.made (s ∷ u), r.counts) in
        answers limit (ap (take limit) w ∙ take_at r.made (s ∷ u) limit (r.counts ∙ e)) (omega arith) (lt-ltb limit _ l)

    -- choice number j of task d
    module _ (within : j ≤ P.cores) where
      abbrev c : ℕ
      c = get_or (choices P.cores) j 0

      -- it is not entered
      pub progress_skip : entered P (take d path) c b ≡ false → Progress P path d (suc j) b best steps
      progress_skip e = same (remaining_skip P path d j b within e)

      -- it is entered, and d is the last task
      pub progress_leaf : suc d ≡ length P.demands → entered P (take d path) c b ≡ true
          → Progress P path d (suc j) (rejected P (take d path ++ (c ∷ []))) (take d path ++ (c ∷ [])) (suc steps)
      unfolding bound_after stored_after
      progress_leaf l e = stepped _ (remaining_leaf P path d j b within l e) refl refl

      -- it is entered, and more tasks follow
      pub progress_descend : d < length path → suc d < length P.demands → entered P (take d path) c b ≡ true
          → Progress P (set path d c) (suc d) 0 b best (suc steps)
      unfolding bound_after stored_after
      progress_descend i l e = stepped inner (remaining_descend P path d j b within i l e) refl refl

      -- it would be entered, and the limit is reached
      pub progress_stop : (limit : ℕ) → d < length path → d < length P.demands → entered P (take d path) c b ≡ true → steps ≡ limit
          → answer P limit ≡ answered best limit true
      progress_stop limit i l e f =
          dite (ℕ_discrete (suc d) (length P.demands))
          (λ q. progress_spent limit f _ _ (remaining_leaf P path d j b within q e))
          (λ q. progress_spent limit f _ _ (remaining_descend P path d j b within i (omega arith) e))

    -- nothing is left
    progress_end : (limit : ℕ) → steps ≤ limit → remaining P path d j b ≡ [] → answer P limit ≡ answered best steps false
    progress_end limit e q =
        let w : trace P ≡ r.made = r.whole ∙ rw q (append-nil r.made) in
        let k : length (trace P) ≡ steps = ap length w ∙ r.counts in
        answers limit (take_all limit (trace P) (omega arith) ∙ w) (omega arith) (le-ltb limit _ (omega arith))

    -- all choices of the first task have been tried
    pub progress_done : (limit : ℕ) → steps ≤ limit → d ≡ 0 → P.cores < j → answer P limit ≡ answered best steps false
    progress_done limit e z h = progress_end limit e (rw z (remaining_end P path j b h))

    -- the stored placement rejects no more than the excess
    pub progress_over : (limit : ℕ) → steps ≤ limit → b ≤ excess P → answer P limit ≡ answered best steps false
    progress_over limit e h = progress_end limit e (remaining_over P path b h d j)

  -- all choices of a later task have been tried
  pub progress_back : {path : List ℕ} {d j b : ℕ} {best : List ℕ} {steps : ℕ} → Progress P path (suc d) j b best steps → P.cores < j
      → Progress P path d (tried_by P.cores (get_or path d 0)) b best steps
  progress_back {path} {d} {j} {b} r h = same r (remaining_back P path d j b h)
