-- Two empty twins may exchange their names, so the walk passes over redundant choices alone.
use Prim.Native.Nat.{ℕ, zero, suc, pred, ◌+◌, ◌≤◌, ◌<◌}
use native.Mathlib.Nat.{le_of_eq}
use native.Mathlib.Decide.{ℕ_discrete}
use native.Mathlib.Omega.{arith}
use mathlib.Core.Path.{◌≡◌, refl, sym, ap, ◌∙◌}
use mathlib.Core.Bool.{Bool, true, false, cond, ◌&&◌, xor, or-true, true≢false, false≢true}
use mathlib.Core.List.{List, [], ◌∷◌, ◌++◌, map}
use mathlib.Core.Logic.{◌≢◌, ⊎_elim, dite}
use lib.Dec.{eqb}
use lib.ListN.{length, get_or, drop, length-append, length-map}
use borrow.Author.Tests.{eq-eqb, ne_eqb, eqb-true, not-false}
use Rattle.numbers.specs.Loads.{demand_on}
use Rattle.numbers.proofs.BoolLaws.{and_left, and_right, or_cases}
use Rattle.numbers.proofs.FirstLaws.{first_zero, first_clear}
use Rattle.numbers.proofs.LoadLaws.{demand_on-append}
use Rattle.allocation.specs.Placement.{Problem, Feasible, permits, load, rejected}
use Rattle.allocation.specs.Best.{core_core}
use Rattle.allocation.specs.Rule.{tells_apart, twins, are_twins, is_empty, some_empty_twin, tried, Redundant}
use Rattle.allocation.specs.EntryRule.{Twins}
use Rattle.allocation.proofs.Complete.{choice_within}

-- ---- two numbers exchanged

module _ (c d : ℕ) where
  swap : ℕ → ℕ
  swap x = cond (eqb x c) d (cond (eqb x d) c x)

  swap_left : swap c ≡ d
  unfolding swap
  swap_left = rw (eq-eqb c c refl)

  swap_right : swap d ≡ c
  unfolding swap
  swap_right = dite (ℕ_discrete d c) (λ e. rw (eq-eqb d c e) e) (λ n. rw (ne_eqb d c n, eq-eqb d d refl))

  swap_other : (x : ℕ) → x ≢ c → x ≢ d → swap x ≡ x
  unfolding swap
  swap_other x h k = rw (ne_eqb x c h, ne_eqb x d k)

  -- what x becomes: by cases
  swap_cases : (Q : ℕ → ℕ → Type 0) → Q c d → Q d c → ((x : ℕ) → x ≢ c → x ≢ d → Q x x) → (x : ℕ) → Q x (swap x)
  swap_cases Q l r o x =
      dite (ℕ_discrete x c) (λ (e : x ≡ c). rw (e, swap_left) l)
      (λ n. dite (ℕ_discrete x d) (λ (e : x ≡ d). rw (e, swap_right) r) (λ k. rw (swap_other x n k) (o x n k)))

  swap_swap : (x : ℕ) → swap (swap x) ≡ x
  swap_swap = swap_cases (λ x y. swap y ≡ x) swap_right swap_left swap_other

  swap_eqb : (x y : ℕ) → eqb (swap x) y ≡ eqb x (swap y)
  swap_eqb x y =
      dite (ℕ_discrete (swap x) y)
      (λ (e : swap x ≡ y). eq-eqb (swap x) y e ∙ sym (eq-eqb x (swap y) (sym (swap_swap x) ∙ ap swap e)))
      (λ n. ne_eqb (swap x) y n ∙ sym (ne_eqb x (swap y) (λ e. n (ap swap e ∙ swap_swap y))))

  -- a fact of both numbers is kept
  swap_keeps : (Q : ℕ → Type 0) → Q c → Q d → (x : ℕ) → Q x → Q (swap x)
  swap_keeps Q l r = swap_cases (λ x y. Q x → Q y) (λ q. r) (λ q. l) (λ x n k q. q)

  -- the demand on a choice becomes that on the other
  demand_on_swap : (x : ℕ) (ws r : List ℕ) → demand_on x ws (map swap r) ≡ demand_on (swap x) ws r
  unfolding demand_on
  demand_on_swap x [] r = refl
  demand_on_swap x (w ∷ ws) [] = refl
  demand_on_swap x (w ∷ ws) (y ∷ r) = rw (demand_on_swap x ws r, swap_eqb y x)

-- a fact of each entry holds once f changed the entries after p, if f keeps it
each_after : (f : ℕ → ℕ) (Q : ℕ → ℕ → Type 0) → ((k x : ℕ) → Q k x → Q k (f x)) → (p r : List ℕ)
    → ((k : ℕ) → k < length (p ++ r) → Q k (get_or (p ++ r) k 0)) → (k : ℕ) → k < length (p ++ map f r) → Q k (get_or (p ++ map f r) k 0)
each_after f Q h [] [] g k l = absurd (omega arith)
each_after f Q h [] (x ∷ r) g zero l = h 0 x (g 0 (omega arith))
each_after f Q h [] (x ∷ r) g (suc k) l = each_after f (λ j. Q (suc j)) (λ j. h (suc j)) [] r (λ j i. g (suc j) (omega arith)) k (omega arith)
each_after f Q h (x ∷ p) r g zero l = g 0 (omega arith)
each_after f Q h (x ∷ p) r g (suc k) l = each_after f (λ j. Q (suc j)) (λ j. h (suc j)) p r (λ j i. g (suc j) (omega arith)) k (omega arith)

-- ---- two cores exchanged

-- Two twins that are empty after the choices p.
record Alike (P : Problem) (p : List ℕ) (c d : ℕ) : Type 0 where
  first : (1 ≤ c) × (c ≤ P.cores)
  second : (1 ≤ d) × (d ≤ P.cores)
  first_empty : load P c p ≡ 0
  second_empty : load P d p ≡ 0
  twins : Twins P c d

module _ (P : Problem) (p : List ℕ) (c d : ℕ) (a : Alike P p c d) (r : List ℕ) where
  -- the placement with the two exchanged after p
  abbrev swapped : List ℕ
  swapped = p ++ map (swap c d) r

  load-swapped : (x : ℕ) → load P x swapped ≡ load P (swap c d x) (p ++ r)
  load-swapped x =
      demand_on-append x P.demands p (map (swap c d) r)
      ∙ rw (demand_on_swap c d x) (ap (λ (n : ℕ). n + demand_on (swap c d x) (drop (length p) P.demands) r) (swap_cases c d (λ y z. load P y p ≡ load P z p)
      (a.first_empty ∙ sym a.second_empty) (a.second_empty ∙ sym a.first_empty) (λ y n k. refl) x))
      ∙ sym (demand_on-append (swap c d x) P.demands p r)

  swapped_rejects : rejected P swapped ≡ rejected P (p ++ r)
  swapped_rejects =
      load-swapped 0
      ∙ ap (λ (x : ℕ). load P x (p ++ r)) (swap_other c d 0 (λ e. omega (arith, a.first)) (λ e. omega (arith, a.second)))

  swapped_feasible : Feasible P (p ++ r) → Feasible P swapped
  swapped_feasible f = record {
    whole = sizes;
    core = each_after (swap c d) (λ k x. x ≤ P.cores) (λ k. swap_keeps c d (λ x. x ≤ P.cores) a.first.1 a.second.1) p r f.core;
    permitted = λ k l.
        each_after (swap c d) (λ j x. j < length P.demands → 1 ≤ x → permits P j x ≡ true)
        (λ j. swap_cases c d (λ x y. (j < length P.demands → 1 ≤ x → permits P j x ≡ true) → j < length P.demands → 1 ≤ y → permits P j y ≡ true)
        (λ g n i. sym (a.twins j n) ∙ g n a.first.0) (λ g n i. a.twins j n ∙ g n a.second.0) (λ x n o g. g))
        p r (λ j i n. f.permitted j i) k l (omega (arith, sizes));
    fits = λ x i j. rw (load-swapped x) (f.fits (swap c d x) (swap_keeps c d (λ y. 1 ≤ y) a.first.0 a.second.0 x i)
        (swap_keeps c d (λ y. y ≤ P.cores) a.first.1 a.second.1 x j));
  }
    where
      sizes : length (p ++ map (swap c d) r) ≡ length P.demands
      sizes = length-append p (map (swap c d) r) ∙ rw (length-map r (swap c d)) (sym (length-append p r) ∙ f.whole)

-- ---- twins

xor_none : (a b : Bool) → xor a b ≡ false → a ≡ b
unfolding xor
xor_none true true e = refl
xor_none true false e = absurd (true≢false e)
xor_none false true e = absurd (true≢false e)
xor_none false false e = refl

xor_same : (a : Bool) → xor a a ≡ false
unfolding xor
xor_same true = refl
xor_same false = refl

module _ (P : Problem) (c d : ℕ) where
  -- the test of two cores is that each task permits both or neither
  pub twins_so : are_twins P c d ≡ true → Twins P c d
  unfolding twins
  twins_so e k h = xor_none _ _ (first_zero (tells_apart P.affinity c d) (length P.demands) (eqb-true _ 0 e) k h)

  pub so_twins : Twins P c d → are_twins P c d ≡ true
  unfolding twins
  so_twins t =
      eq-eqb _ 0 (first_clear (tells_apart P.affinity c d) (length P.demands) (λ k h. rw (t k h) (xor_same (permits P k d))))

-- ---- the rule

-- one of the cores 1 to k is empty and a twin of core c exactly if the test says so
some_empty : (P : Problem) (p : List ℕ) (c k : ℕ) → some_empty_twin P p c k ≡ true
    → (d : ℕ) × (1 ≤ d) × (d ≤ k) × (load P d p ≡ 0) × Twins P c d
unfolding some_empty_twin is_empty
some_empty P p c zero e = absurd (false≢true e)
some_empty P p c (suc k) e =
    ⊎_elim (λ q. (
      suc k,
      omega arith,
      omega arith,
      eqb-true _ _ (and_left (is_empty P p (suc k)) (are_twins P c (suc k)) q),
      twins_so P c (suc k) (and_right (is_empty P p (suc k)) (are_twins P c (suc k)) q),
    ))
    (λ q. let x = some_empty P p c k q in (x.0, x.1, omega (arith, x.2), x.3, x.4))
    (or_cases (is_empty P p (suc k) && are_twins P c (suc k)) (some_empty_twin P p c k) e)

empty_among : (P : Problem) (p : List ℕ) (c d : ℕ) → load P d p ≡ 0 → Twins P c d → 1 ≤ d → (k : ℕ) → d ≤ k → some_empty_twin P p c k ≡ true
unfolding some_empty_twin is_empty
empty_among P p c d e t i zero l = absurd (omega arith)
empty_among P p c d e t i (suc k) l =
    dite (ℕ_discrete d (suc k)) (λ (q : d ≡ suc k). rw (← q, eq-eqb _ 0 e, so_twins P c d t))
    (λ n. rw (empty_among P p c d e t i k (omega arith), or-true))

-- A choice that the walk passes over: an empty core, and a lower empty core that is its twin.
pub record Passed (P : Problem) (p : List ℕ) (c : ℕ) : Type 0 where
  pub lower : ℕ
  pub below : (1 ≤ lower) × (lower < c)
  pub empty : load P c p ≡ 0
  pub lower_empty : load P lower p ≡ 0
  pub twins : Twins P c lower

module _ (P : Problem) (p : List ℕ) (c : ℕ) where
  pub passed_over : tried P p c ≡ false → Passed P p c
  unfolding tried is_empty
  passed_over e =
      let both = not-false (is_empty P p c && some_empty_twin P p c (pred c)) e in
      let x = some_empty P p c (pred c) (and_right (is_empty P p c) (some_empty_twin P p c (pred c)) both) in
      record {
        lower = x.0;
        below = (x.1, omega (arith, x.1, x.2));
        empty = eqb-true _ _ (and_left (is_empty P p c) (some_empty_twin P p c (pred c)) both);
        lower_empty = x.3;
        twins = x.4;
      }

  pub not_tried : Passed P p c → tried P p c ≡ false
  unfolding tried is_empty
  not_tried x =
      rw (eq-eqb _ 0 x.empty, empty_among P p c x.lower x.lower_empty x.twins x.below.0 (pred c) (omega (arith, x.below)))

-- the walk passes over redundant choices alone: for one on an empty core there is the same on a lower empty twin
pub tried_redundant : (P : Problem) → Redundant P
tried_redundant P p c r e f =
    let x = passed_over P p c e in
    let d = x.lower in
    let within = choice_within P p c r f in
    let a : Alike P p c d = record {
      first = (omega (arith, x.below), within);
      second = (x.below.0, omega (arith, x.below));
      first_empty = x.empty;
      second_empty = x.lower_empty;
      twins = x.twins;
    } in
    record {
      choice = d;
      rest = map (swap c d) r;
      earlier = core_core {c = d} {d = c} x.below.0 x.below.1;
      feasible = rw (swap_left c d) at (swapped_feasible P p c d a (c ∷ r) f);
      no_more = le_of_eq (rw (swap_left c d) at (swapped_rejects P p c d a (c ∷ r)));
    }
