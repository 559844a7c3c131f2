-- The walk's steps are the only ones that follow depth first.
use Prim.Native.Nat.{ℕ, zero, suc, ◌+◌, ◌≤◌, ◌<◌, zero-le}
use native.Mathlib.Nat.{eq-or-lt_of_le}
use native.Mathlib.Omega.{arith}
use mathlib.Core.Path.{◌≡◌, refl, sym, ap, ap₂, ◌∙◌}
use mathlib.Core.Bool.{Bool, true, false, cond, true≢false}
use mathlib.Core.List.{List, [], ◌∷◌, ◌++◌, map, append-nil, append_assoc, map-append, head-eq_of_cons-eq, tail-eq_of_cons-eq}
use mathlib.Core.Logic.{◌⊎◌, inl, inr, ⊎_elim, ⊎_map}
use lib.Dec.{eqb}
use lib.ListN.{length, get_or, length-append}
use lib.Seq.{append_snoc}
use borrow.Author.Tests.{eq-eqb, ne_eqb, eqb-true}
use Rattle.allocation.specs.Placement.{Problem, rejected}
use Rattle.allocation.specs.Best.{Earlier, core_core, core_none, Before, here, there}
use Rattle.allocation.specs.Walk.{Step, inner, leaf, step_into, bound_after, entered, try_all, visit, choices, up_from, trace}
use Rattle.allocation.specs.EntryRule.{demands_with, Enters, all_demands}
use Rattle.allocation.specs.DepthFirst.{Sooner, Among, incumbent_from, incumbent, MayFollow, Next, Follow, DepthFirst}
use Rattle.allocation.proofs.Demands.{total-all, load_with}
use Rattle.allocation.proofs.Order.{earlier_ne, before_asym, before_at}
use Rattle.allocation.proofs.Sound.{into, try_skip, try_enter}
use Rattle.allocation.proofs.EntryRule.{entry_rule}

-- ---- the depth_first order

-- nothing comes after all that begins with no choice
before-none : {p q : List ℕ} → Before p q → p ≡ [] → ⊥
before-none (here e) i = omega (arith, ap length i)
before-none (there b) i = omega (arith, ap length i)

-- what continues p does not come before it
before_off : {p q : List ℕ} → Before q p → (r : List ℕ) → q ≡ p ++ r → ⊥
before_off (here e) r i = earlier_ne e (head-eq_of_cons-eq i)
before_off (there b) r i = before_off b r (tail-eq_of_cons-eq i)

sooner_asym : (p q : List ℕ) → Sooner p q → Sooner q p → ⊥
sooner_asym p q (inl x) (inl y) =
    omega (arith, ap length x.2, length-append p (x.0 ∷ x.1), ap length y.2, length-append q (y.0 ∷ y.1))
sooner_asym p q (inl x) (inr b) = before_off b (x.0 ∷ x.1) x.2
sooner_asym p q (inr b) (inl y) = before_off b (y.0 ∷ y.1) y.2
sooner_asym p q (inr b) (inr d) = before_asym b d

-- what comes after all that begins with p comes after all that begins with more
before_more : {p q : List ℕ} → Before p q → (r : List ℕ) → Before (p ++ r) q
before_more (here e) r = here e
before_more (there b) r = there (before_more b r)

-- s goes on from p by a choice in D, or comes after all that begins with p
abbrev Region : List ℕ → (ℕ → Type 0) → List ℕ → Type 0
Region p D s = ((d : ℕ) × (r : List ℕ) × (s ≡ p ++ (d ∷ r)) × D d) ⊎ Before p s

under : (x : ℕ) {p : List ℕ} {D : ℕ → Type 0} {s : List ℕ} → Region p D s → Region (x ∷ p) D (x ∷ s)
under x (inl y) = inl (y.0, y.1, ap (λ (l : List ℕ). x ∷ l) y.2, y.3)
under x (inr b) = inr (there b)

before_snoc : (p : List ℕ) (c : ℕ) {s : List ℕ} → Before (p ++ (c ∷ [])) s → Region p (Earlier c) s
before_snoc [] c (here {d = d} {q = q} e) = inl (d, q, refl, e)
before_snoc [] c (there b) = absurd (before-none b refl)
before_snoc (x ∷ p) c (here e) = inr (here e)
before_snoc (x ∷ p) c (there b) = under x (before_snoc p c b)

snoc_before : (p : List ℕ) (c : ℕ) {s : List ℕ} → Region p (Earlier c) s → Before (p ++ (c ∷ [])) s
snoc_before p c (inl x) = rw x.2 (before_at p [] x.1 x.3)
snoc_before p c (inr b) = before_more b (c ∷ [])

-- ---- lists with one entry more

among_left : (p : List ℕ) (made more : List (List ℕ)) → Among p made → Among p (made ++ more)
among_left p [] more a = absurd a
among_left p (q ∷ made) more (inl e) = inl e
among_left p (q ∷ made) more (inr a) = inr (among_left p made more a)

among_last : (p : List ℕ) (made : List (List ℕ)) → Among p (made ++ (p ∷ []))
among_last p [] = inl refl
among_last p (q ∷ made) = inr (among_last p made)

among_snoc : (p q : List ℕ) (made : List (List ℕ)) → Among p (made ++ (q ∷ [])) → Among p made ⊎ (p ≡ q)
among_snoc p q [] a = ⊎_elim inr (λ n. absurd n) a
among_snoc p q (x ∷ made) (inl e) = inl (inl e)
among_snoc p q (x ∷ made) (inr a) = ⊎_map (λ y. inr y) (λ e. e) (among_snoc p q made a)

-- of a list that goes on from p, all but the last entry are p, or go on from it likewise
all_but_last : (p : List ℕ) (d : ℕ) (r q : List ℕ) (c : ℕ) → p ++ (d ∷ r) ≡ q ++ (c ∷ [])
    → ((q ≡ p) × (c ≡ d) × (r ≡ [])) ⊎ ((r' : List ℕ) × (q ≡ p ++ (d ∷ r')))
all_but_last [] d r [] c e = inl (refl, sym (head-eq_of_cons-eq e), tail-eq_of_cons-eq e)
all_but_last [] d r (x ∷ q) c e = inr (q, ap (λ (y : ℕ). y ∷ q) (sym (head-eq_of_cons-eq e)))
all_but_last (y ∷ p) d r [] c e = absurd (omega (arith, ap length e, length-append p (d ∷ r)))
all_but_last (y ∷ p) d r (x ∷ q) c e =
    ⊎_map (λ i. (rw (head-eq_of_cons-eq e, i.0), i.1, i.2)) (λ i. (i.0, rw (head-eq_of_cons-eq e, i.1)))
    (all_but_last p d r q c (tail-eq_of_cons-eq e))

-- ---- the choices by their order

-- Of the choices in D, with cores up to m, c is the first, and those later than c are in D.
record Leads (m : ℕ) (D : ℕ → Type 0) (c : ℕ) : Type 0 where
  self : D c
  core : c ≤ m
  first : (d : ℕ) → D d → d ≤ m → (d ≡ c) ⊎ Earlier c d
  others : (d : ℕ) → Earlier c d → D d

module _ (m : ℕ) where
  -- the list has the choices in D, in their order
  abbrev Lists : (ℕ → Type 0) → List ℕ → Type 0
  Lists D [] = (d : ℕ) → D d → d ≤ m → ⊥
  Lists D (c ∷ cs) = Leads m D c × Lists (Earlier c) cs

  -- the choices later than core k
  from_up : (k : ℕ) → 1 ≤ k → (d : ℕ) → (d ≡ 0) ⊎ (suc k ≤ d) → Earlier k d
  from_up k i d (inl e) = rw e (core_none {c = k} i)
  from_up k i d (inr l) = core_core {c = k} {d = d} i l

  up_from_lem : {k d : ℕ} → Earlier k d → (d ≡ 0) ⊎ (suc k ≤ d)
  up_from_lem (core_core i l) = inr l
  up_from_lem (core_none i) = inl refl

  none_last : {c d : ℕ} → Earlier c d → c ≡ 0 → ⊥
  none_last (core_core i l) e = omega arith
  none_last (core_none i) e = omega arith

  lists_up : (n k : ℕ) (D : ℕ → Type 0) → n + k ≡ m + 1 → 1 ≤ k → ((d : ℕ) → (d ≡ 0) ⊎ (k ≤ d) → D d) → ((d : ℕ) → D d → (d ≡ 0) ⊎ (k ≤ d))
      → Lists D (up_from k n ++ (0 ∷ []))
  unfolding up_from
  lists_up zero k D e i f g = (
    record {
      self = f 0 (inl refl);
      core = zero-le;
      first = λ d x l. ⊎_elim inl (λ h. absurd (omega arith)) (g d x);
      others = λ d x. absurd (none_last x refl);
    },
    λ d x l. none_last x refl,
  )
  lists_up (suc n) k D e i f g = (
    record {
      self = f k (inr (omega arith));
      core = omega arith;
      first = λ d x l. ⊎_elim (λ z. inr (from_up k i d (inl z))) (λ h. ⊎_map sym (λ y. from_up k i d (inr y)) (eq-or-lt_of_le h)) (g d x);
      others = λ d x. ⊎_elim (λ z. f d (inl z)) (λ h. f d (inr (omega arith))) (up_from_lem x);
    },
    lists_up n (suc k) (Earlier k) (omega arith) (omega arith) (from_up k i) (λ d x. up_from_lem x),
  )

  choices_list : Lists (λ _. Unit {0}) (choices m)
  unfolding choices
  choices_list = lists_up m 1 (λ _. Unit {0}) refl (omega arith) (λ d x. tt) (λ d x. some d)
    where
      some : (d : ℕ) → (d ≡ 0) ⊎ (1 ≤ d)
      some zero = inl refl
      some (suc d) = inr (omega arith)

-- ---- the incumbent bound of the steps, and the walk's

module _ (P : Problem) where
  abbrev n : ℕ
  n = length P.demands

  -- the step as the walk tells it
  abbrev told : List ℕ → Step
  told p = cond (eqb (length p) n) (leaf p) inner

  told-into : (k : ℕ) (p : List ℕ) → length p + k ≡ n → step_into k p ≡ told p
  unfolding step_into
  told-into zero p e = rw (eq-eqb (length p) n (omega arith))
  told-into (suc k) p e = rw (ne_eqb (length p) n (λ i. omega arith))

  incumbent_is_bound : (b : ℕ) (steps : List (List ℕ)) → incumbent_from P b steps ≡ bound_after P b (map told steps)
  unfolding incumbent_from bound_after
  incumbent_is_bound b [] = refl
  incumbent_is_bound b (p ∷ steps) = go (eqb (length p) n) refl (λ b'. incumbent_is_bound b' steps)
    where
      go : (x : Bool) → eqb (length p) n ≡ x → ((b' : ℕ) → incumbent_from P b' steps ≡ bound_after P b' (map told steps))
          → incumbent_from P b (p ∷ steps) ≡ bound_after P b (told p ∷ map told steps)
      go true e rest =
          rw e (ap (λ (b' : ℕ). incumbent_from P b' steps) (sym (load_with P 0 p (omega (arith, eqb-true (length p) n e)))) ∙ rest (rejected P p))
      go false e rest = rw e (rest b)

  incumbent-append : (b : ℕ) (made more : List (List ℕ)) → incumbent_from P b (made ++ more) ≡ incumbent_from P (incumbent_from P b made) more
  unfolding incumbent_from
  incumbent-append b [] more = refl
  incumbent-append b (p ∷ made) more = incumbent-append (cond (eqb (length p) n) (demands_with P 0 p) b) made more

-- ---- the steps follow

module _ (P : Problem) (positive : (k : ℕ) → k < length P.demands → 1 ≤ get_or P.demands k 0) where
  abbrev m : ℕ
  m = P.cores

  -- What may follow the steps made is in R, and R comes after them.
  record At (made : List (List ℕ)) (R : List ℕ → Type 0) : Type 0 where
    coming : (s : List ℕ) → MayFollow P made s → R s
    past : (t s : List ℕ) → Among t made → R s → Sooner t s

  -- where R is a node's choices and what comes after the node, only the node's choices themselves may follow
  next_choice : {made : List (List ℕ)} (p : List ℕ) {D : ℕ → Type 0} → At made (Region p D) → (s : List ℕ) → MayFollow P made s
      → ((d : ℕ) × (s ≡ p ++ (d ∷ [])) × D d × (d ≤ m) × Enters P p d (incumbent P made)) ⊎ Before p s
  next_choice {made} p {D} a s y =
      ⊎_elim (λ x. ⊎_elim (λ i. inl (x.0, x.2 ∙ rw i.2, x.3, rw i.1 at y.core, rw (i.0, i.1) at y.enters))
      (λ i. absurd (⊎_elim
      (λ e. omega (arith, ap length i.1, ap length e, length-append p (x.0 ∷ i.0)))
      (λ b. let z = a.past y.so_far y.so_far b (inl (x.0, i.0, i.1, x.3)) in sooner_asym _ _ z z)
      y.from))
      (all_but_last p x.0 x.1 y.so_far y.choice (sym x.2 ∙ y.is))) inr (a.coming s y)

  -- The steps t after those made, up to the end of the node p.
  record Walked (made : List (List ℕ)) (p : List ℕ) (t : List Step) : Type 0 where
    steps : List (List ℕ)
    are : t ≡ map (told P) steps
    after : At (made ++ steps) (Before p)
    follow : (later : List (List ℕ)) → Follow P (made ++ steps) later → Follow P made (steps ++ later)

  no_steps : {made : List (List ℕ)} {p : List ℕ} → At made (Before p) → Walked made p []
  no_steps {made} a = record { steps = []; are = refl; after = rw (append-nil made) a; follow = λ later f. rw (append-nil made) at f }

  -- the steps of a node with k tasks still to place
  abbrev Visits : ℕ → Type 0
  Visits k = (p : List ℕ) (made : List (List ℕ)) → length p + k ≡ n P → Among p ([] ∷ made) → At made (Region p (λ _. Unit {0}))
      → Walked made p (visit P k p (incumbent P made))

  -- and of its choices cs, where they are those in D
  abbrev Tries : ℕ → List ℕ → List ℕ → (ℕ → Type 0) → Type 0
  Tries k p cs D = (made : List (List ℕ)) → Among p ([] ∷ made) → At made (Region p D)
      → Walked made p (try_all P k (λ p' b'. visit P k p' b') p cs (incumbent P made))

  -- one choice of a node
  module _ (k : ℕ) (visits : Visits k) (p : List ℕ) (short : length p + suc k ≡ n P) (c : ℕ) {D : ℕ → Type 0} (leads : Leads m D c)
      (made : List (List ℕ)) (from : Among p ([] ∷ made)) (a : At made (Region p D)) where
    abbrev q : List ℕ
    q = p ++ (c ∷ [])

    widen : {s : List ℕ} → Region p (Earlier c) s → Region p D s
    widen = ⊎_map (λ x. (x.0, x.1, x.2, leads.others x.0 x.3)) (λ b. b)

    -- it is not entered
    passed : entered P p c (incumbent P made) ≡ false → At made (Region p (Earlier c))
    passed e = record {
      coming = λ s y. ⊎_map (λ x. (
        x.0,
        [],
        x.1,
        ⊎_elim (λ (z : x.0 ≡ c). absurd (true≢false
            (sym ((entry_rule P positive p c (incumbent P made) (omega arith)).1 (rw z at x.4)) ∙ e))) (λ l. l) (leads.first x.0 x.2 x.3),
      ))
          (λ b. b) (next_choice p a s y);
      past = λ t s i r. a.past t s i (widen r);
    }

    -- it is entered
    next : entered P p c (incumbent P made) ≡ true → Next P made q
    next e = record {
      may = record {
        so_far = p;
        choice = c;
        is = refl;
        from = from;
        task = omega arith;
        core = leads.core;
        enters = (entry_rule P positive p c (incumbent P made) (omega arith)).0 e;
        ahead = λ t i. a.past t q i (inl (c, [], refl, leads.self));
      };
      first = λ s y. ⊎_elim (λ x. ⊎_elim (λ (z : x.0 ≡ c). inl (rw (x.1, z)))
          (λ l. inr (inr (rw x.1 (before_at p [] [] l)))) (leads.first x.0 x.2 x.3))
          (λ b. inr (inr (before_more b (c ∷ [])))) (next_choice p a s y);
    }

    abbrev below : List ℕ → ℕ → List Step
    below p' b' = visit P k p' b'

    abbrev made₁ : List (List ℕ)
    made₁ = made ++ (q ∷ [])

    begun : At made₁ (Region q (λ _. Unit {0}))
    begun = record {
      coming = λ s y. ⊎_map (λ x. (x.0, x.1, x.2, tt)) (λ b. b) (y.ahead q (among_last q made));
      past = λ t s i r. ⊎_elim (λ j. a.past t s j (outer r)) (λ (e : t ≡ q). rw e (⊎_map (λ x. (x.0, x.1, x.2)) (λ b. b) r)) (among_snoc t q made i);
    }
      where
        outer : {s : List ℕ} → Region q (λ _. Unit {0}) s → Region p D s
        outer = ⊎_elim (λ x. inl (c, x.0 ∷ x.1, x.2 ∙ append_snoc p c _, leads.self)) (λ b. widen (before_snoc p c b))

    -- the last task's choice changes the bound, and nothing is below it
    same-below : (j : ℕ) → k ≡ j → visit P j q (incumbent P made) ≡ visit P j q (incumbent P made₁)
    unfolding visit incumbent_from
    same-below zero i = refl
    same-below (suc j) i =
        ap (λ (b : ℕ). visit P (suc j) q b) (sym (incumbent-append P _ made (q ∷ []) ∙ rw (ne_eqb (length q) (n P) (λ e. omega (arith, length-append p (c ∷ []))))))

    child : Walked made₁ q (visit P k q (incumbent P made₁))
    child = visits q made₁ (omega (arith, length-append p (c ∷ []))) (inr (among_last q made)) begun

    abbrev made₂ : List (List ℕ)
    made₂ = made₁ ++ child.steps

    into_are : into k below p c (incumbent P made) ≡ map (told P) (q ∷ child.steps)
    into_are = rw (told-into P k q (omega (arith, length-append p (c ∷ []))), same-below k refl, child.are)

    bound_is : bound_after P (incumbent P made) (into k below p c (incumbent P made)) ≡ incumbent P made₂
    bound_is =
        rw (into_are, append_snoc made q child.steps)
        (sym (incumbent_is_bound P (incumbent P made) (q ∷ child.steps)) ∙ sym (incumbent-append P _ made (q ∷ child.steps)))

    back : At made₂ (Region p (Earlier c))
    back = record {
      coming = λ s y. before_snoc p c (child.after.coming s y);
      past = λ t s i r. child.after.past t s i (snoc_before p c r);
    }

    still : Among p ([] ∷ made₂)
    still = ⊎_map (λ i. i) (λ i. among_left p made₁ child.steps (among_left p made (q ∷ []) i)) from

    -- with the steps of the choices after it
    join : entered P p c (incumbent P made) ≡ true → (cs : List ℕ) → Walked made₂ p (try_all P k below p cs (incumbent P made₂))
        → Walked made p (try_all P k below p (c ∷ cs) (incumbent P made))
    join e cs w = record {
      steps = q ∷ (child.steps ++ w.steps);
      are = try_enter P k below p c cs (incumbent P made) e
          ∙ ap₂ (λ (x y : List Step). x ++ y) into_are (ap (λ (b : ℕ). try_all P k below p cs b) bound_is ∙ w.are)
          ∙ sym (map-append (told P) (q ∷ child.steps) w.steps);
      after = rw whole at w.after;
      follow = λ later f. (
        next e,
        rw (append_assoc child.steps w.steps later)
            (child.follow (w.steps ++ later) (w.follow later (rw (← whole) at f))),
      );
    }
      where
        whole : made₂ ++ w.steps ≡ made ++ (q ∷ (child.steps ++ w.steps))
        whole = append_assoc made₁ child.steps w.steps ∙ append_snoc made q (child.steps ++ w.steps)

    tried-one : (x : Bool) → entered P p c (incumbent P made) ≡ x → (cs : List ℕ) → Tries k p cs (Earlier c)
        → Walked made p (try_all P k below p (c ∷ cs) (incumbent P made))
    tried-one false e cs rest = rw (try_skip P k below p c cs (incumbent P made) e) (rest made from (passed e))
    tried-one true e cs rest = join e cs (rest made₂ still back)

  tried-all : (k : ℕ) → Visits k → (p : List ℕ) → length p + suc k ≡ n P → (cs : List ℕ) {D : ℕ → Type 0} → Lists m D cs → Tries k p cs D
  unfolding try_all
  tried-all k visits p short [] h made from a = no_steps (record {
    coming = λ s y. ⊎_elim (λ x. absurd (h x.0 x.2 x.3)) (λ b. b) (next_choice p a s y);
    past = λ t s i b. a.past t s i (inr b);
  })
  tried-all k visits p short (c ∷ cs) h made from a =
      tried-one k visits p short c h.0 made from a (entered P p c (incumbent P made)) refl cs
      (tried-all k visits p short cs h.1)

  visit_walked : (k : ℕ) → Visits k
  unfolding visit
  visit_walked zero p made e from a = no_steps (record {
    coming = λ s y. ⊎_elim
        (λ x. absurd (omega (arith, ap length (sym x.2 ∙ y.is), length-append p (x.0 ∷ x.1), length-append y.so_far (y.choice ∷ []), y.task)))
        (λ b. b) (a.coming s y);
    past = λ t s i b. a.past t s i (inr b);
  })
  visit_walked (suc k) p made e from a = tried-all k (visit_walked k) p e (choices m) (choices_list m) made from a

-- ---- no other steps do

module _ (P : Problem) where
  next_unique : (made : List (List ℕ)) (s t : List ℕ) → Next P made s → Next P made t → s ≡ t
  next_unique made s t x y =
      ⊎_elim (λ e. e) (λ l. ⊎_elim sym (λ r. absurd (sooner_asym s t l r)) (y.first s x.may)) (x.first t y.may)

  follow_unique : (made a b : List (List ℕ)) → Follow P made a → Follow P made b → a ≡ b
  follow_unique made [] [] x y = refl
  follow_unique made [] (t ∷ b) x y = absurd (x t y.0.may)
  follow_unique made (s ∷ a) [] x y = absurd (y s x.0.may)
  follow_unique made (s ∷ a) (t ∷ b) x y =
      let e = next_unique made s t x.0 y.0 in
      rw e (ap (λ (l : List (List ℕ)). t ∷ l) (follow_unique (made ++ (t ∷ [])) a b (rw e at x.1) y.1))

-- the steps of the walk follow from none, and no others do
pub depth_first : (P : Problem) → ((k : ℕ) → k < length P.demands → 1 ≤ get_or P.demands k 0) → DepthFirst P
unfolding trace incumbent_from
depth_first P positive = record {
  steps = w.steps;
  follow = from_none;
  only = λ others f. follow_unique P [] others w.steps f from_none;
  walked = rw (total-all P) w.are;
}
  where
    begin : At P positive [] (Region [] (λ _. Unit {0}))
    begin = record {
      coming = λ s y. ⊎_elim (λ e. inl (y.choice, [], y.is ∙ rw e, tt)) (λ i. absurd i) y.from;
      past = λ t s i r. absurd i;
    }

    w : Walked P positive [] [] (visit P (length P.demands) [] (all_demands P + 1))
    w = visit_walked P positive (length P.demands) [] [] (omega arith) (inl refl) begin

    from_none : Follow P [] w.steps
    from_none = rw (append-nil w.steps) at (w.follow [] (λ s y. before-none (w.after.coming s y) refl))
