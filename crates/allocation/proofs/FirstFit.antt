-- First fit is feasible; each of its tasks is on the lowest core that has room for it, and no other placement is so.
use Prim.Native.Nat.{ℕ, zero, suc, ◌+◌, ◌≤◌, ◌<◌}
use native.Mathlib.Decide.{dec_lt}
use native.Mathlib.Omega.{arith}
use mathlib.Core.Path.{◌≡◌, refl, sym, ap, ◌∙◌}
use mathlib.Core.Bool.{Bool, true, false, true≢false}
use mathlib.Core.List.{List, [], ◌∷◌, ◌++◌, append-nil}
use mathlib.Core.Logic.{⊎_elim, by_cases}
use lib.ListN.{length, get_or, take, length-append}
use lib.Seq.{append_snoc, get_or-append_seam, take-append_seam, take_all, take-suc}
use Rattle.numbers.proofs.BoolLaws.{true_or_false}
use Rattle.numbers.proofs.FirstLaws.{first_zero, first_is}
use Rattle.numbers.proofs.LoadLaws.{demand_on-same}
use Rattle.allocation.specs.Placement.{Problem, Feasible, load}
use Rattle.allocation.specs.Best.{Earlier, core_core, core_none}
use Rattle.allocation.specs.Walk.{fits, choices}
use Rattle.allocation.specs.FirstFit.{lowest_fit, fit_from, first_fit, Room, OnLowest}
use Rattle.allocation.proofs.Order.{choice_core, choice_none, choice_le}
use Rattle.allocation.proofs.Sound.{Partial, partial_whole, fits_so, core_fits, partial_snoc}
use Rattle.allocation.proofs.Complete.{Begins}
use Rattle.allocation.proofs.Optimal.{start}

-- an earlier choice is a core, and lower than a core that it is earlier than
earlier_core : {d c : ℕ} → Earlier d c → 1 ≤ d
earlier_core (core_core h l) = h
earlier_core (core_none h) = h

earlier_less : {d c : ℕ} → Earlier d c → 1 ≤ c → d < c
earlier_less (core_core h l) i = l
earlier_less (core_none h) i = absurd (omega arith)

module _ (P : Problem) where
  abbrev n : ℕ
  n = length P.demands

  abbrev m : ℕ
  m = P.cores

  -- ---- the choice for the next task

  -- of the choices in their order c is the first that fits
  pub record Next (p : List ℕ) (c : ℕ) : Type 0 where
    pub at : ℕ
    pub within : at ≤ m
    pub is : get_or (choices m) at 0 ≡ c
    pub fits-there : fits P p c ≡ true
    pub passed : (d : ℕ) → d ≤ m → Earlier d c → fits P p d ≡ false

  pub next : (p : List ℕ) → Next p (lowest_fit P p)
  unfolding lowest_fit
  next p = go (lowest_fit P p) refl
    where
      test : ℕ → Bool
      test k = fits P p (suc k)

      lower : {c d : ℕ} → Earlier d c → ((k : ℕ) → d ≡ suc k → test k ≡ false) → fits P p d ≡ false
      lower {d = zero} x h = absurd (omega (arith, earlier_core x))
      lower {d = suc d} x h = h d refl

      go : (c : ℕ) → lowest_fit P p ≡ c → Next p c
      go zero e = record {
        at = m;
        within = omega arith;
        is = choice_none m;
        fits-there = refl;
        passed = λ d h x. lower x (λ k q. first_zero test m e k (omega arith));
      }
      go (suc c) e =
          let i = first_is test m c e in
          record {
            at = c;
            within = omega (arith, i.below);
            is = choice_core m c i.below;
            fits-there = i.here;
            passed = λ d h x. lower x (λ k q.
                ⊎_elim (λ t. absurd (i.none k (omega (arith, earlier_less x (omega arith))) t)) (λ f. f) (true_or_false (test k)));
          }

  pub next_le : (p : List ℕ) → lowest_fit P p ≤ m
  next_le p = let x = next p in rw (← x.is) (choice_le m x.at x.within)

  -- ---- the placement

  -- the choices p, and one more
  module _ (p : List ℕ) where
    abbrev pub one : List ℕ
    one = p ++ (lowest_fit P p ∷ [])

    pub one_long : (k : ℕ) → length p + suc k ≡ n → length one + k ≡ n
    one_long k e = omega (arith, length-append p (lowest_fit P p ∷ []))

    pub one_partial : Partial P p → Partial P one
    one_partial h = partial_snoc P p (lowest_fit P p) (next p).fits-there (next_le p) h

  pub fit_begins : (k : ℕ) (p : List ℕ) → Begins p (fit_from P k p)
  unfolding fit_from
  fit_begins zero p = ([], sym (append-nil p))
  fit_begins (suc k) p = let x = fit_begins k (one p) in (lowest_fit P p ∷ x.0, x.1 ∙ append_snoc p (lowest_fit P p) x.0)

  -- the beginning of a placement goes on to a feasible one
  pub fit_feasible : (k : ℕ) (p : List ℕ) → length p + k ≡ n → Partial P p → Feasible P (fit_from P k p)
  unfolding fit_from
  fit_feasible zero p e h = partial_whole P h (omega arith)
  fit_feasible (suc k) p e h = fit_feasible k (one p) (one_long p k e) (one_partial p h)

  pub first_feasible : Feasible P (first_fit P)
  unfolding first_fit
  first_feasible = fit_feasible n [] (omega arith) (start P)

  -- ---- each task is on the lowest core that has room

  -- the task after p: a core has room for it exactly if it fits there
  module _ (p : List ℕ) (c : ℕ) (r : List ℕ) (short : length p < n) (x : Next p c) where
    abbrev all : List ℕ
    all = p ++ (c ∷ r)

    loaded : (d : ℕ) → load P d (p ++ (d ∷ [])) ≡ load P d p + get_or P.demands (length p) 0
    loaded d = demand_on-same d P.demands p short

    room : (d : ℕ) → 1 ≤ d → d ≤ m → fits P p d ≡ true → Room P all (length p) d
    room d i h e =
        let f = core_fits P p d e i in
        record { number = (i, h); permitted = f.0; enough = rw take-append_seam (omega (arith, f.1, loaded d)) }

    fits_in : (d : ℕ) → Room P all (length p) d → fits P p d ≡ true
    fits_in d h = fits_so P p d (λ i. (h.permitted, omega (arith, loaded d, rw take-append_seam at h.enough)))

    no_lower : (d : ℕ) → 1 ≤ d → d ≤ m → fits P p d ≡ true → (1 ≤ c) × (c ≤ d)
    no_lower d i h e = go c refl
      where
        unless : Earlier d c → ⊥
        unless y = true≢false (sym e ∙ x.passed d h y)

        go : (y : ℕ) → c ≡ y → (1 ≤ c) × (c ≤ d)
        go zero q = absurd (unless (rw q (core_none i)))
        go (suc y) q = by_cases (dec_lt d c) (λ l. absurd (unless (core_core i l))) (λ l. (omega arith, omega arith))

    on_lowest : c ≤ m → OnLowest P all (length p)
    on_lowest h = record {
      has_room = rw get_or-append_seam (λ i. room c i h x.fits-there);
      lowest = λ d y. rw get_or-append_seam (no_lower d y.number.0 y.number.1 (fits_in d y));
    }

  fit_lowest : (k : ℕ) (p : List ℕ) → length p + k ≡ n → (i : ℕ) → length p ≤ i → i < n → OnLowest P (fit_from P k p) i
  unfolding fit_from
  fit_lowest zero p e i h l = absurd (omega arith)
  fit_lowest (suc k) p e i h l =
      by_cases (dec_lt (length p) i)
      (λ g. fit_lowest k (one p) (one_long p k e) i (omega (arith, length-append p (lowest_fit P p ∷ []))) l)
      (λ g. let q : i ≡ length p = omega arith in
      rw (q, (fit_begins k (one p)).1, append_snoc) (on_lowest p (lowest_fit P p) (fit_begins k (one p)).0 (omega arith) (next p) (next_le p)))

  pub first_lowest : (k : ℕ) → k < n → OnLowest P (first_fit P) k
  unfolding first_fit
  first_lowest k h = fit_lowest n [] (omega arith) k (omega arith) h

  -- no other placement has each task there
  module _ (p q : List ℕ) where
    same_room : {k c : ℕ} → take k p ≡ take k q → Room P p k c → Room P q k c
    same_room {c = c} e h =
        record { number = h.number; permitted = h.permitted; enough = rw (ap (λ x. load P c x) e) at h.enough }

    choice_most : {k : ℕ} → take k p ≡ take k q → OnLowest P p k → OnLowest P q k → 1 ≤ get_or p k 0
        → (1 ≤ get_or q k 0) × (get_or q k 0 ≤ get_or p k 0)
    choice_most e a b h = b.lowest _ (same_room e (a.has_room h))

  lowest_only : (p q : List ℕ) → length p ≡ n → length q ≡ n → ((k : ℕ) → k < n → OnLowest P p k) → ((k : ℕ) → k < n → OnLowest P q k)
      → p ≡ q
  lowest_only p q lp lq a b = sym (take_all n p (omega arith)) ∙ fronts n (omega arith) ∙ take_all n q (omega arith)
    where
      same : (k : ℕ) → k < n → take k p ≡ take k q → get_or p k 0 ≡ get_or q k 0
      same k h e = go (get_or p k 0) refl (get_or q k 0) refl
        where
          go : (x : ℕ) → get_or p k 0 ≡ x → (y : ℕ) → get_or q k 0 ≡ y → get_or p k 0 ≡ get_or q k 0
          go zero i zero j = i ∙ sym j
          go zero i (suc y) j = absurd (omega (arith, (choice_most q p (sym e) (b k h) (a k h) (omega arith)).0))
          go (suc x) i zero j = absurd (omega (arith, (choice_most p q e (a k h) (b k h) (omega arith)).0))
          go (suc x) i (suc y) j = omega (
            arith,
            (choice_most p q e (a k h) (b k h) (omega arith)).1,
            (choice_most q p (sym e) (b k h) (a k h) (omega arith)).1,
          )

      fronts : (k : ℕ) → k ≤ n → take k p ≡ take k q
      fronts zero h = refl
      fronts (suc k) h =
          let e = fronts k (omega arith) in
          take-suc p k 0 (omega arith) ∙ rw (e, same k (omega arith) e) (sym (take-suc q k 0 (omega arith)))

  pub first-only : (p : List ℕ) → length p ≡ n → ((k : ℕ) → k < n → OnLowest P p k) → p ≡ first_fit P
  first-only p e a = lowest_only p (first_fit P) e first_feasible.whole a first_lowest
