-- The loop over the tasks: what it has chosen so far is the beginning of first fit.
use Prim.Native.Nat.{ℕ, suc, ◌+◌, ◌-◌, ◌≤◌, ◌<◌}
use native.Mathlib.Nat.{le_trans, le_refl, add-zero}
use native.Mathlib.Decide.{ℕ_discrete}
use native.Mathlib.Numerals.{add-one}
use native.Mathlib.Omega.{arith}
use mathlib.Core.Path.{◌≡◌, refl, sym, ap, ◌∙◌}
use mathlib.Core.Bool.{cond, false}
use mathlib.Core.List.{List, [], ◌∷◌, ◌++◌}
use mathlib.Core.Logic.{dite}
use lib.Dec.{eqb}
use lib.ListN.{length, get_or, take, set, replicate, length-set, length-append}
use lib.Seq.{get_or-take, get_or-set_same, get_or-set_other, length-take-le}
use borrow.Author.Tests.{ne_eqb}
use Rattle.numbers.specs.First.{first}
use Rattle.numbers.specs.Rows.{padded}
use Rattle.numbers.proofs.BoolLaws.{cond_le}
use Rattle.numbers.proofs.LoadLaws.{demand_on-none, demand_on-same, demand_on-other, demand_on_le_sum, sum-take_le}
use Rattle.numbers.proofs.ZeroLaws.{zero_at, padded_next}
use Rattle.allocation.specs.Placement.{Problem, problem_of, load, rejected}
use Rattle.allocation.specs.Walk.{fits}
use Rattle.allocation.specs.FirstFit.{lowest_fit, fit_from, first_fit}
use Rattle.allocation.proofs.FirstFit.{next_le}
use Rattle.blend.specs.Entry.{on_core}
use Rattle.blend.proofs.OneCore.{row_changed}
use Rattle.walk.specs.Given.{Ranges, found_of}
use Rattle.walk.specs.declared.Found.{Found}
use Rattle.firstfit.specs.Fit.{holds, fit_answer}

module _ (row affinity : List ℕ) (n m h : ℕ) where
  abbrev P : Problem
  P = problem_of h m (take n row) (take n affinity)

  -- k tasks have their choice; the rejected demand `out` and the cores' loads are theirs, and first fit goes on from them
  pub record Fitting (placement loads : List ℕ) (out k : ℕ) : Type 0 where
    pub ranges : Ranges row n m h
    pub row_long : length row ≡ 16
    pub top : k ≤ n
    pub chosen : List ℕ
    pub count : length chosen ≡ k
    pub placement_is : placement ≡ padded chosen
    pub loads_long : length (out ∷ loads) ≡ 5
    pub loads_are : (c : ℕ) → get_or (out ∷ loads) c 0 ≡ load P c chosen
    pub left : fit_from P (n - k) chosen ≡ first_fit P

  pub fit_start : Ranges row n m h → length row ≡ 16 → Fitting (replicate 16 0) (replicate 4 0) 0 0
  unfolding first_fit
  fit_start r e = record {
    ranges = r;
    row_long = e;
    top = omega arith;
    chosen = [];
    count = refl;
    placement_is = refl;
    loads_long = refl;
    loads_are = λ c. zero_at 5 c ∙ sym (demand_on-none c (take n row));
    left = ap (λ (k : ℕ). fit_from P k []) (omega (arith, length-take-le n row (omega (arith, r.few))));
  }

  module _ {placement loads : List ℕ} {out k : ℕ} (s : Fitting placement loads out k) where
    -- the demand on each choice
    abbrev on : List ℕ
    on = out ∷ loads

    -- a sum of a load and a demand is a word
    pub fit_room : (j i : ℕ) → get_or on j 0 + get_or row i 0 < 4294967296
    fit_room j i =
        omega (
          arith,
          s.loads_are j,
          demand_on_le_sum j (take n row) s.chosen,
          sum-take_le 1000000 row n (λ a. le_trans (s.ranges.each a) s.ranges.small),
          s.ranges.few,
          s.ranges.each i,
          s.ranges.small,
        )

    -- and so is one of the rejected demand
    pub out_room : (core : ℕ) {o : ℕ} → o ≡ cond (eqb core 0) (get_or row k 0) 0 → out + o < 4294967296
    out_room core e = omega (arith, fit_room 0 k, cond_le (eqb core 0) (get_or row k 0) _ (le_refl _))

    module _ (below : k < n) where
      -- the next task's demand, on choice c
      more : (c : ℕ) → load P c (s.chosen ++ (c ∷ [])) ≡ get_or on c 0 + get_or row k 0
      more c =
          demand_on-same c (take n row) s.chosen (omega (arith, s.count, length-take-le n row (omega (arith, s.ranges.few, s.row_long))))
          ∙ rw (s.count, get_or-take n row k 0 below, s.loads_are c)

      -- the core that the code looks for
      fit_core : first (holds loads (get_or affinity k 0) (get_or row k 0) h) m ≡ lowest_fit P s.chosen
      unfolding lowest_fit
      fit_core = ap (λ test. first test m) (λ i j. same j i)
        where
          same : (j : ℕ) → holds loads (get_or affinity k 0) (get_or row k 0) h j ≡ fits P s.chosen (suc j)
          same j = rw (ne_eqb (suc j) 0 (λ q. omega arith), more (suc j), s.count, get_or-take n affinity k 0 below, add-one j)

      module _ {core : ℕ} (e : core ≡ first (holds loads (get_or affinity k 0) (get_or row k 0) h) m) where
        chosen_is : core ≡ lowest_fit P s.chosen
        chosen_is = e ∙ fit_core

        pub core_small : core < 5
        core_small = omega (arith, chosen_is, next_le P s.chosen, s.ranges.few_cores)

        goes_on : fit_from P (n - (k + 1)) (s.chosen ++ (core ∷ [])) ≡ first_fit P
        unfolding fit_from
        goes_on = let z : n - k ≡ suc (n - (k + 1)) = omega arith in rw chosen_is (rw z at s.left)

        pub fit_next : {placement' loads' : List ℕ} {o : ℕ} → loads' ≡ on_core (λ y. y + get_or row k 0) loads core → placement' ≡ set placement k core
            → o ≡ cond (eqb core 0) (get_or row k 0) 0 → Fitting placement' loads' (out + o) (k + 1)
        fit_next x y z = rw (x, z) record {
          ranges = s.ranges;
          row_long = s.row_long;
          top = omega arith;
          chosen = s.chosen ++ (core ∷ []);
          count = omega (arith, length-append s.chosen (core ∷ []), s.count);
          placement_is = rw (y, s.placement_is, ← s.count) (padded_next s.chosen core (omega (arith, s.count, s.ranges.few)));
          loads_long = ap length changed ∙ rw length-set s.loads_long;
          loads_are = λ c. ap (λ (l : List ℕ). get_or l c 0) changed ∙ (dite (ℕ_discrete core c)
              (λ q. rw (← q) (get_or-set_same on core _ 0 (omega (arith, core_small, s.loads_long)) ∙ sym (more core)))
              (λ q. get_or-set_other on core c _ 0 (λ z. q (sym z)) ∙ s.loads_are c ∙ sym (demand_on-other c core q (take n row) s.chosen)));
          left = goes_on;
        }
          where
            changed : (out + cond (eqb core 0) (get_or row k 0) 0) ∷ on_core (λ y. y + get_or row k 0) loads core ≡ set on core (get_or on core 0 + get_or row k 0)
            changed = row_changed ◌+◌ add-zero out loads core (get_or row k 0)

    pub fit_done : n ≤ k → ◌≡◌ {A = Found} (record { placement = placement; rejected = out; steps = n; spent = false }) (found_of (fit_answer P))
    unfolding found_of fit_answer fit_from
    fit_done z =
        let e : n - k ≡ 0 = omega arith in
        let f : s.chosen ≡ first_fit P = rw e at s.left in
        let long : n ≡ length (take n row) = sym (length-take-le n row (omega (arith, s.ranges.few, s.row_long))) in
        λ i. record { placement = (s.placement_is ∙ ap padded f) i; rejected = (s.loads_are 0 ∙ ap (λ p. rejected P p) f) i; steps = long i; spent = false }
