-- First fit is the walk's first descent.
use Prim.Native.Nat.{ℕ, zero, suc, ◌+◌, ◌<◌, zero-le}
use native.Mathlib.Omega.{arith}
use mathlib.Core.Path.{◌≡◌, refl, sym, ap, ◌∙◌}
use mathlib.Core.Bool.{true, false, true≢false}
use mathlib.Core.List.{List, [], ◌∷◌, ◌++◌, append-nil, append_assoc}
use mathlib.Core.Logic.{⊎_elim}
use lib.ListN.{length, get_or, drop, length-append}
use lib.Seq.{append_snoc, drop-cons, take_at}
use borrow.Author.Tests.{lt-ltb}
use Rattle.numbers.proofs.BoolLaws.{and_intro, true_or_false}
use Rattle.numbers.proofs.LoadLaws.{demand_on_le_sum}
use Rattle.allocation.specs.Placement.{Problem, Feasible, rejected, total}
use Rattle.allocation.specs.Rule.{tried, Redundant}
use Rattle.allocation.specs.Walk.{Step, step_into, bound_after, stored_after, fits, entered, try_all, visit, choices, trace, stored}
use Rattle.allocation.specs.FirstFit.{lowest_fit, fit_from, first_fit, FirstDescent}
use Rattle.allocation.proofs.Demands.{excess_le}
use Rattle.allocation.proofs.Order.{length-choices, choice_le, choices-ordered}
use Rattle.allocation.proofs.Sound.{Partial, into, try_skip, try_enter, try_over}
use Rattle.allocation.proofs.Complete.{choice_within, choice_fits, snoc_mono}
use Rattle.allocation.proofs.Optimal.{none, start}
use Rattle.allocation.proofs.FirstFit.{next, one, one_long, one_partial, fit_begins, fit_feasible}

module _ (P : Problem) where
  abbrev n : ℕ
  n = length P.demands

  abbrev m : ℕ
  m = P.cores

  -- the steps of the descent from p through the next k tasks
  unfoldable descent : ℕ → List ℕ → List Step
  descent zero p = []
  descent (suc k) p = step_into k (one P p) ∷ descent k (one P p)

  descent_long : (k : ℕ) (p : List ℕ) → length (descent k p) ≡ k
  unfolding descent
  descent_long zero p = refl
  descent_long (suc k) p = ap suc (descent_long k (one P p))

  -- with the step before it, it completes what first fit makes of p
  descent_bound : (k : ℕ) (p : List ℕ) (b : ℕ) → bound_after P b (step_into k p ∷ descent k p) ≡ rejected P (fit_from P k p)
  unfolding descent fit_from step_into bound_after
  descent_bound zero p b = refl
  descent_bound (suc k) p b = descent_bound k (one P p) b

  descent-stored : (k : ℕ) (p q : List ℕ) → stored_after q (step_into k p ∷ descent k p) ≡ fit_from P k p
  unfolding descent fit_from step_into stored_after
  descent-stored zero p q = refl
  descent-stored (suc k) p q = descent-stored k (one P p) q

  -- the root is no step
  descent_root : (k : ℕ) → n ≡ k → stored_after (none P) (descent k []) ≡ fit_from P k []
  unfolding descent fit_from stored_after
  descent_root zero e = rw e
  descent_root (suc k) e = descent-stored k (one P []) (none P)

  module _ (k : ℕ) (below : List ℕ → ℕ → List Step) (p : List ℕ) where
    -- choices that are not entered are passed over
    try_pass : (b : ℕ) (cs : List ℕ) (j : ℕ) → ((i : ℕ) → i < j → entered P p (get_or cs i 0) b ≡ false)
        → try_all P k below p cs b ≡ try_all P k below p (drop j cs) b
    try_pass b cs zero h = refl
    try_pass b [] (suc j) h = refl
    try_pass b (c ∷ cs) (suc j) h =
        try_skip P k below p c cs b (h 0 (omega arith)) ∙ try_pass b cs j (λ i l. h (suc i) (omega arith))

  unfit : (p : List ℕ) (c b : ℕ) → fits P p c ≡ false → entered P p c b ≡ false
  unfolding entered
  unfit p c b e = rw e

  -- steps that begin with the descent from p, and are no more if it rejects nothing
  record Descends (k : ℕ) (p : List ℕ) (t : List Step) : Type 0 where
    later : List Step
    is : t ≡ descent k p ++ later
    ends : rejected P (fit_from P k p) ≡ 0 → later ≡ []

  module _ (redundant : Redundant P) where
    -- one task's choices, where first fit would improve on the bound
    module _ (k : ℕ) (p : List ℕ) (b : ℕ) (e : length p + suc k ≡ n) (h : Partial P p) (i : rejected P (fit_from P k (one P p)) < b) where
      abbrev c : ℕ
      c = lowest_fit P p

      rest : List ℕ
      rest = (fit_begins P k (one P p)).0

      whole_is : fit_from P k (one P p) ≡ p ++ (c ∷ rest)
      unfolding rest
      whole_is = (fit_begins P k (one P p)).1 ∙ append_snoc p c _

      feasible : Feasible P (p ++ (c ∷ rest))
      feasible = rw (← whole_is) (fit_feasible P k (one P p) (one_long P p k e) (one_partial P p h))

      tried_next : tried P p c ≡ true
      tried_next = ⊎_elim (λ t. t) (λ t.
          let x = redundant p c rest t feasible in
          absurd (true≢false (sym (choice_fits P p x.choice x.rest x.feasible)
          ∙ (next P p).passed x.choice (choice_within P p x.choice x.rest x.feasible) x.earlier))) (true_or_false (tried P p c))

      enters : entered P p c b ≡ true
      unfolding entered
      enters =
          and_intro _ _ (and_intro _ _ (next P p).fits-there tried_next)
          (lt-ltb _ b (omega (arith, rw whole_is at i, snoc_mono P p c rest 0, excess_le P _ feasible)))

      -- what has been passed over, c itself, and what is left
      abbrev below : List ℕ → ℕ → List Step
      below p' b' = visit P k p' b'

      abbrev j : ℕ
      j = (next P p).at

      others : List Step
      others = try_all P k below p (drop (suc j) (choices m)) (bound_after P b (into k below p c b))

      passes : (y : ℕ) → y < j → entered P p (get_or (choices m) y 0) b ≡ false
      passes y l =
          unfit p _ b ((next P p).passed _ (choice_le m y (omega (arith, (next P p).within)))
          (rw (next P p).is at (choices-ordered m y j l (omega (arith, length-choices m, (next P p).within)))))

      visits : visit P (suc k) p b ≡ into k below p c b ++ others
      unfolding visit others
      visits =
          try_pass k below p b (choices m) j passes
          ∙ rw (drop-cons (choices m) j 0 (omega (arith, length-choices m, (next P p).within)), (next P p).is)
          (try_enter P k below p c (drop (suc j) (choices m)) b enters)

      -- where the steps below c descend, so do these
      module _ (d : Descends k (one P p) (visit P k (one P p) b)) where
        no_others : rejected P (fit_from P k (one P p)) ≡ 0 → others ≡ []
        unfolding others
        no_others z = rw (d.is, d.ends z, append-nil (descent k (one P p)), descent_bound k (one P p) b, z) (try_over P k below p _ 0 zero-le)

        descend : Descends (suc k) p (visit P (suc k) p b)
        unfolding descent fit_from
        descend = record {
          later = d.later ++ others;
          is = visits ∙ ap (λ (l : List Step). step_into k (one P p) ∷ l)
              (ap (λ (l : List Step). l ++ others) d.is ∙ append_assoc (descent k (one P p)) d.later others);
          ends = λ z. rw (d.ends z) (no_others z);
        }

    descends : (k : ℕ) (p : List ℕ) (b : ℕ) → length p + k ≡ n → Partial P p → rejected P (fit_from P k p) < b → Descends k p (visit P k p b)
    unfolding descent fit_from visit
    descends zero p b e h i = record { later = []; is = refl; ends = λ z. refl }
    descends (suc k) p b e h i = descend k p b e h i (descends k (one P p) b (one_long P p k e) (one_partial P p h) i)

    pub first-descent : FirstDescent P
    unfolding trace stored first_fit
    first-descent = record {
      long = omega (arith, counted);
      stores = ap (λ (t : List Step). stored_after (none P) t) (rw d.is (take_at (descent n []) d.later n (descent_long n [])))
          ∙ descent_root n refl;
      alone = λ z. omega (arith, counted, ap length (d.ends z));
    }
      where
        d : Descends n [] (trace P)
        d = descends n [] (total P + 1) (omega arith) (start P) (omega (arith, demand_on_le_sum 0 P.demands (fit_from P n [])))

        counted : length (trace P) ≡ n + length d.later
        counted = rw d.is (omega (arith, length-append (descent n []) d.later, descent_long n []))
