-- The walk passes over nothing that is better than what it has stored.
use Prim.Native.Nat.{ℕ, zero, suc, ◌+◌, ◌≤◌, ◌<◌}
use native.Mathlib.Nat.{le_refl, le_trans}
use native.Mathlib.Omega.{arith}
use mathlib.Core.Path.{◌≡◌, refl, sym, ◌∙◌}
use mathlib.Core.Bool.{Bool, true, false, true≢false}
use mathlib.Core.List.{List, [], ◌∷◌, ◌++◌, append-nil}
use mathlib.Core.Logic.{◌⊎◌, inl, inr, ⊎_elim}
use lib.ListN.{length, get_or, length-append}
use lib.Seq.{append_snoc, get_or-append_seam, take-append_seam, take_all}
use borrow.Author.Tests.{lt-ltb}
use Rattle.allocation.specs.Placement.{Problem, permits, Feasible, rejected, load}
use Rattle.allocation.specs.Best.{Earlier, Before}
use Rattle.allocation.specs.Rule.{tried, Redundant}
use Rattle.allocation.specs.Walk.{Step, step_into, bound_after, stored_after, fits, entered, try_all, visit, choices}
use Rattle.numbers.proofs.BoolLaws.{and_intro}
use Rattle.numbers.proofs.LoadLaws.{demand_on_mono}
use Rattle.allocation.proofs.Demands.{excess_le}
use Rattle.allocation.proofs.Order.{earlier_trans, before_ne, before_at, length-choices, choice_core, choice_none, Ordered, choices-ordered}
use Rattle.allocation.proofs.Steps.{bound_after-append, stored_after-append}
use Rattle.allocation.proofs.Sound.{fits_so, into, entered_rejects, try_skip, try_enter}

-- x begins with the choices p
abbrev pub Begins : List ℕ → List ℕ → Type 0
Begins p x = (r : List ℕ) × (x ≡ p ++ r)

-- x is yet to come: after p it makes one of the choices cs, or it is in R
abbrev Coming : (List ℕ → Type 0) → List ℕ → List ℕ → List ℕ → Type 0
Coming R p [] x = R x
Coming R p (c ∷ cs) x = Begins (p ++ (c ∷ [])) x ⊎ Coming R p cs x

-- The bound is b, q is stored, and R is yet to come: q comes before all others that reject b, and what rejects less is in R.
pub record Kept (P : Problem) (R : List ℕ → Type 0) (b : ℕ) (q : List ℕ) : Type 0 where
  pub bound : rejected P q ≤ b
  pub first : (x : List ℕ) → Feasible P x → rejected P x ≡ b → (q ≡ x) ⊎ Before q x
  pub left : (x : List ℕ) → Feasible P x → rejected P x < b → R x

-- what a feasible placement says of one of its choices
module _ (P : Problem) (p : List ℕ) (c : ℕ) (r : List ℕ) where
  at_seam : length p < length (p ++ (c ∷ r))
  at_seam = omega (arith, length-append p (c ∷ r))

  pub choice_within : Feasible P (p ++ (c ∷ r)) → c ≤ P.cores
  choice_within f = rw get_or-append_seam at (f.core (length p) at_seam)

  choice_permitted : Feasible P (p ++ (c ∷ r)) → 1 ≤ c → permits P (length p) c ≡ true
  choice_permitted f = rw get_or-append_seam at (f.permitted (length p) at_seam)

  pub snoc_mono : (d : ℕ) → load P d (p ++ (c ∷ [])) ≤ load P d (p ++ (c ∷ r))
  snoc_mono d = rw append_snoc at (demand_on_mono d P.demands (p ++ (c ∷ [])) r)

pub choice_fits : (P : Problem) (p : List ℕ) (c : ℕ) (r : List ℕ) → Feasible P (p ++ (c ∷ r)) → fits P p c ≡ true
choice_fits P p c r f =
    fits_so P p c (λ i. (choice_permitted P p c r f i, le_trans (snoc_mono P p c r c) (f.fits c i (choice_within P p c r f))))

-- all of R comes after what begins with p
abbrev After : (List ℕ → Type 0) → List ℕ → Type 0
After R p = (r x : List ℕ) → R x → Before (p ++ r) x

module _ (R : List ℕ → Type 0) (p : List ℕ) where
  coming_rest : (cs : List ℕ) {x : List ℕ} → R x → Coming R p cs x
  coming_rest [] h = h
  coming_rest (c ∷ cs) h = inr (coming_rest cs h)

  coming_at : (cs : List ℕ) (j : ℕ) → j < length cs → (r : List ℕ) → Coming R p cs (p ++ (get_or cs j 0 ∷ r))
  coming_at [] j l r = absurd (omega arith)
  coming_at (c ∷ cs) zero l r = inl (r, sym (append_snoc p c r))
  coming_at (c ∷ cs) (suc j) l r = inr (coming_at cs j (omega arith) r)

  coming_choice : (m d : ℕ) → d ≤ m → (r : List ℕ) → Coming R p (choices m) (p ++ (d ∷ r))
  coming_choice m zero l r = rw (choice_none m) at (coming_at (choices m) m (omega (arith, length-choices m)) r)
  coming_choice m (suc d) l r = rw (choice_core m d l) at (coming_at (choices m) d (omega (arith, length-choices m)) r)

  -- a choice d that is earlier than all of cs
  module _ (after : After R p) (d : ℕ) (r : List ℕ) where
    coming_after : (cs : List ℕ) → ((j : ℕ) → j < length cs → Earlier d (get_or cs j 0)) → {x : List ℕ} → Coming R p cs x
        → Before (p ++ (d ∷ r)) x
    coming_after [] h {x} y = after (d ∷ r) x y
    coming_after (c ∷ cs) h (inl y) = rw (y.1, append_snoc p c y.0) (before_at p r y.0 (h 0 (omega arith)))
    coming_after (c ∷ cs) h (inr y) = coming_after cs (λ j l. h (suc j) (omega arith)) y

module _ (P : Problem) (redundant : Redundant P) where
  -- less is yet to come
  narrow : {R S : List ℕ → Type 0} {b : ℕ} {q : List ℕ} → ((x : List ℕ) → Feasible P x → rejected P x < b → R x → S x)
      → Kept P R b q → Kept P S b q
  narrow h s = record { bound = s.bound; first = s.first; left = λ x f l. h x f l (s.left x f l) }

  -- what the step to p and those that follow it do, with k tasks still to place
  abbrev Deep : ℕ → Type 1
  Deep k = (R : List ℕ → Type 0) (p : List ℕ) → After R p → length p + k ≡ length P.demands → (b : ℕ) (q : List ℕ)
      → rejected P p < b → Kept P (λ x. Begins p x ⊎ R x) b q
      → Kept P R (bound_after P b (step_into k p ∷ visit P k p b)) (stored_after q (step_into k p ∷ visit P k p b))

  -- the choices of a node
  module _ (k : ℕ) (deep : Deep k) (R : List ℕ → Type 0) (p : List ℕ) (after : After R p)
      (short : length p + suc k ≡ length P.demands) where
    abbrev tries : List ℕ → ℕ → List Step
    tries cs b = try_all P k (λ p' b'. visit P k p' b') p cs b

    abbrev Ends : List ℕ → ℕ → List ℕ → Type 0
    Ends cs b q = Kept P R (bound_after P b (tries cs b)) (stored_after q (tries cs b))

    try_kept : (cs : List ℕ) → Ordered cs → (b : ℕ) (q : List ℕ) → Kept P (Coming R p cs) b q → Ends cs b q
    unfolding try_all bound_after stored_after entered
    try_kept [] o b q s = s
    try_kept (c ∷ cs) o b q s =
        go (entered P p c b) refl (try_kept cs (λ i j h l. o (suc i) (suc j) (omega arith) (omega arith)))
      where
        later : (j : ℕ) → j < length cs → Earlier c (get_or cs j 0)
        later j l = o 0 (suc j) (omega arith) (omega arith)

        from : (d : ℕ) → Earlier d c → (j : ℕ) → j < length (c ∷ cs) → Earlier d (get_or (c ∷ cs) j 0)
        from d x zero i = x
        from d x (suc j) i = earlier_trans x (later j (omega arith))

        -- c is not entered: nothing through it is better
        beaten : entered P p c b ≡ false → (r : List ℕ) → Feasible P (p ++ (c ∷ r)) → rejected P (p ++ (c ∷ r)) < b → ⊥
        beaten e r f l = look (tried P p c) refl
          where
            enters : tried P p c ≡ true → entered P p c b ≡ true
            enters t =
                and_intro _ _ (and_intro _ _ (choice_fits P p c r f) t)
                (lt-ltb _ b (omega (arith, snoc_mono P p c r 0, excess_le P (p ++ (c ∷ r)) f)))

            look : (t : Bool) → tried P p c ≡ t → ⊥
            look false t =
                let x = redundant p c r t f in
                let y = s.left _ x.feasible (omega (arith, x.no_more)) in
                before_ne (coming_after R p after x.choice x.rest (c ∷ cs) (from x.choice x.earlier) y) refl
            look true t = true≢false (sym (enters t) ∙ e)

        t : List Step
        t = into k (λ p' b'. visit P k p' b') p c b

        go : (x : Bool) → entered P p c b ≡ x → ((b' : ℕ) (q' : List ℕ) → Kept P (Coming R p cs) b' q' → Ends cs b' q')
            → Ends (c ∷ cs) b q
        go false e rest =
            rw (try_skip P k _ p c cs b e) (rest b q (narrow (λ x f l. ⊎_elim
            (λ y. let i = y.1 ∙ append_snoc p c y.0 in absurd (beaten e y.0 (rw i at f) (rw i at l))) (λ y. y)) s))
        go true e rest =
            rw (try_enter P k _ p c cs b e, bound_after-append P b t, stored_after-append q t) (rest _ _
            (deep (λ x. Coming R p cs x) (p ++ (c ∷ [])) (λ r x y. rw append_snoc (coming_after R p after c r cs later y))
            (omega (arith, length-append p (c ∷ []))) b q (entered_rejects P p c b e) s))

  pub deep : (k : ℕ) → Deep k
  unfolding visit step_into bound_after stored_after
  deep zero R p after n b q h s = record {
    bound = le_refl (rejected P p);
    first = λ x f e. ⊎_elim (λ y. inl (same x f y)) (λ y. inr (rw append-nil at (after [] x y))) (s.left x f (omega arith));
    left = λ x f e. ⊎_elim (λ y. absurd (omega (arith, rw (← same x f y) at e))) (λ y. y) (s.left x f (omega arith));
  }
    where
      same : (x : List ℕ) → Feasible P x → Begins p x → p ≡ x
      same x f y = sym (take-append_seam p y.0) ∙ rw (← y.1) (take_all (length p) x (omega (arith, f.whole)))
  deep (suc k) R p after n b q h s =
      try_kept k (deep k) R p after n (choices P.cores) (choices-ordered P.cores) b q
      (narrow (λ x f l. ⊎_elim (λ y. opens x f y.0 y.1) (coming_rest R p (choices P.cores))) s)
    where
      opens : (x : List ℕ) → Feasible P x → (r : List ℕ) → x ≡ p ++ r → Coming R p (choices P.cores) x
      opens x f [] i = absurd (omega (arith, rw i at f.whole, length-append p []))
      opens x f (d ∷ r) i = rw i (coming_choice R p P.cores d (choice_within P p d r (rw i at f)) r)
