-- The complete walk has at most as many steps as the ceiling says.
use Prim.Native.Nat.{ℕ, zero, suc, pred, ◌+◌, ◌*◌, ◌≤◌, min, zero-le}
use native.Mathlib.Nat.{le_refl, le_trans, le_of_eq, add-zero, zero-add, mul-le-mul_right}
use native.Mathlib.Omega.{arith}
use mathlib.Core.Path.{◌≡◌, refl, ap}
use mathlib.Core.Bool.{Bool, true, false, cond, not, ◌&&◌, ◌||◌, and-true, or-true}
use mathlib.Core.List.{List, [], ◌∷◌, ◌++◌}
use mathlib.Core.Logic.{⊎_elim}
use lib.Dec.{eqb, ltb}
use lib.ListN.{length, length-append}
use borrow.Author.Tests.{ne_eqb}
use Rattle.affinity.specs.Permitted.{permitted_count}
use Rattle.numbers.specs.Rows.{entry}
use Rattle.numbers.specs.Sums.{sum_over, sum_to, sum_from_one, product_to, product_from_one}
use Rattle.numbers.specs.Loads.{demand_on}
use Rattle.numbers.proofs.BoolLaws.{true_or_false, cond_le}
use Rattle.numbers.proofs.SumLaws.{sum_to_cong, sum_to_mono, sum_to_bound, sum_to_add, sum_to-front, sum_to-only}
use Rattle.allocation.specs.Placement.{Problem, permits}
use Rattle.allocation.specs.Rule.{is_empty, some_empty_twin, tried}
use Rattle.allocation.specs.EntryRule.{Twins}
use Rattle.allocation.specs.Walk.{Step, bound_after, entered, try_all, visit, choices, up_from, trace}
use Rattle.allocation.proofs.Sound.{into, core_fits, entered-fits, entered-tried, try_skip, try_enter}
use Rattle.allocation.proofs.EmptyCores.{so_twins}

-- ---- a tree whose nodes have f 1, f 2, .. children by depth

-- the nodes below one at depth j, where k depths follow
nodes : (ℕ → ℕ) → ℕ → ℕ → ℕ
nodes f j zero = 0
nodes f j (suc k) = f (suc j) * suc (nodes f (suc j) k)

-- the sum, over k from 1 to n, of the product of f 1 to f k
abbrev products : (ℕ → ℕ) → ℕ → ℕ
products f n = sum_from_one (product_from_one f) n

nodes_products : (f : ℕ → ℕ) (j k : ℕ) → product_from_one f j * nodes f j k + products f j ≡ products f (j + k)
unfolding nodes sum_to product_to
nodes_products f j zero = rw add-zero (omega arith)
nodes_products f j (suc k) =
    let e : suc j + k ≡ j + suc k = omega arith in
    omega (arith, nodes_products f (suc j) k, ap (products f) e)

nodes_all : (f : ℕ → ℕ) (n : ℕ) → nodes f 0 n ≡ products f n
unfolding sum_to product_to
nodes_all f n = omega (arith, nodes_products f 0 n, ap (products f) (zero-add n))

-- ---- how many choices pass a test

abbrev one : Bool → ℕ
one b = cond b 1 0

one_le : (b : Bool) → one b ≤ 1
one_le b = cond_le b 1 1 (omega arith)

count : (ℕ → Bool) → List ℕ → ℕ
count test cs = sum_over (λ c. one (test c)) cs

count-up_from : (test : ℕ → Bool) (cs : List ℕ) (k n : ℕ) → count test (up_from k n ++ cs) ≡ sum_to (λ i. one (test (k + i))) n + count test cs
unfolding count sum_over up_from sum_to
count-up_from test cs k zero = omega arith
count-up_from test cs k (suc n) =
    omega (
      arith,
      count-up_from test cs (suc k) n,
      sum_to-front (λ i. one (test (k + i))) n,
      ap (λ (i : ℕ). one (test i)) (add-zero k),
      sum_to_cong (λ i. one (test (suc k + i))) (λ i. one (test (k + suc i))) n (λ i h. ap (λ (c : ℕ). one (test c)) (omega arith)),
    )

-- the cores, and leaving out
count-choices : (test : ℕ → Bool) (m : ℕ) → count test (choices m) ≤ sum_from_one (λ c. one (test c)) m + 1
unfolding choices count sum_over
count-choices test m =
    omega (
      arith,
      count-up_from test (0 ∷ []) 1 m,
      sum_to_cong (λ i. one (test (1 + i))) (λ i. one (test (suc i))) m (λ i h. ap (λ (c : ℕ). one (test c)) (omega arith)),
      one_le (test 0),
    )

-- ---- the steps of a walk that enters only choices that pass a test

module _ (P : Problem) (test : List ℕ → ℕ → Bool) (passes : (p : List ℕ) (c b : ℕ) → entered P p c b ≡ true → test p c ≡ true) where
  try_steps : (k : ℕ) (below : List ℕ → ℕ → List Step) (p : List ℕ) (most : ℕ) → ((c b : ℕ) → length (below (p ++ (c ∷ [])) b) ≤ most)
      → (cs : List ℕ) (b : ℕ) → length (try_all P k below p cs b) ≤ count (test p) cs * suc most
  unfolding try_all count sum_over
  try_steps k below p most h [] b = zero-le
  try_steps k below p most h (c ∷ cs) b =
      ⊎_elim
      (λ e. let t = into k below p c b in
      rw (try_enter P k below p c cs b e, passes p c b e)
      (omega (arith, length-append t (try_all P k below p cs (bound_after P b t)), h c b, try_steps k below p most h cs (bound_after P b t))))
      (λ e. rw (try_skip P k below p c cs b e) (omega (arith, try_steps k below p most h cs b)))
      (true_or_false (entered P p c b))

  -- no node at depth j has more than f (j + 1) choices that pass
  module _ (f : ℕ → ℕ) (few : (p : List ℕ) → count (test p) (choices P.cores) ≤ f (suc (length p))) where
    visit_steps : (k : ℕ) (p : List ℕ) (b : ℕ) → length (visit P k p b) ≤ nodes f (length p) k
    unfolding visit nodes
    visit_steps zero p b = zero-le
    visit_steps (suc k) p b =
        le_trans
        (try_steps k (λ p' b'. visit P k p' b') p (nodes f (suc (length p)) k)
        (λ c b'. rw (longer c) at (visit_steps k (p ++ (c ∷ [])) b')) (choices P.cores) b)
        (mul-le-mul_right (suc (nodes f (suc (length p)) k)) (few p))
      where
        longer : (c : ℕ) → length (p ++ (c ∷ [])) ≡ suc (length p)
        longer c = omega (arith, length-append p (c ∷ []))

    trace_steps : length (trace P) ≤ products f (length P.demands)
    unfolding trace
    trace_steps = le_trans (visit_steps (length P.demands) [] _) (le_of_eq (nodes_all f (length P.demands)))

-- ---- the choices that the empty-core rule leaves

-- every two cores are twins
abbrev pub AllTwins : Problem → Type 0
AllTwins P = (c d : ℕ) → c ≤ P.cores → d ≤ P.cores → 1 ≤ c → 1 ≤ d → Twins P c d

-- one of the cores 1 to k is empty
some_empty : Problem → List ℕ → ℕ → Bool
some_empty P p zero = false
some_empty P p (suc k) = is_empty P p (suc k) || some_empty P p k

-- then each is a twin of core c
each_twin : (P : Problem) → AllTwins P → (p : List ℕ) (c : ℕ) → 1 ≤ c → c ≤ P.cores → (k : ℕ) → k ≤ P.cores → some_empty_twin P p c k ≡ some_empty P p k
unfolding some_empty_twin some_empty
each_twin P all p c i j zero h = refl
each_twin P all p c i j (suc k) h =
    rw (so_twins P c (suc k) (all c (suc k) j h i (omega arith)), and-true (is_empty P p (suc k)), each_twin P all p c i j k (omega arith))

-- of the empty cores it leaves one
one_empty : (P : Problem) → AllTwins P → (p : List ℕ) (m : ℕ) → m ≤ P.cores
    → sum_from_one (λ c. one (tried P p c)) m ≤ sum_from_one (λ c. one (not (is_empty P p c))) m + one (some_empty P p m)
unfolding sum_to tried some_empty
one_empty P all p zero h = zero-le
one_empty P all p (suc m) h =
    rw (each_twin P all p (suc m) (omega arith) h m (omega arith))
    (go (is_empty P p (suc m)) (some_empty P p m) (one_empty P all p m (omega arith)))
  where
    a : ℕ
    a = sum_from_one (λ c. one (tried P p c)) m

    u : ℕ
    u = sum_from_one (λ c. one (not (is_empty P p c))) m

    go : (s t : Bool) → a ≤ u + one t → one (not (s && t)) + a ≤ one (not s) + u + one (s || t)
    go true true h = omega arith
    go true false h = omega arith
    go false true h = omega arith
    go false false h = omega arith

-- k choices use k cores at most
used : (m : ℕ) (ws p : List ℕ) → sum_to (λ c. one (not (eqb (demand_on c ws p) 0))) m ≤ length p
unfolding demand_on
used m [] p = omega (arith, sum_to_bound (λ c. 0) m 0 (λ k h. zero-le))
used m (w ∷ ws) [] = omega (arith, sum_to_bound (λ c. 0) m 0 (λ k h. zero-le))
used m (w ∷ ws) (x ∷ p) =
    le_trans (sum_to_mono _ (λ c. cond (eqb x c) 1 0 + old c) m (λ c h. go c (eqb x c)))
    (omega (
      arith,
      used m ws p,
      sum_to_add (λ c. cond (eqb x c) 1 0) old m,
      sum_to-only x (λ c. 1) m,
      one_le (ltb x m),
    ))
  where
    old : ℕ → ℕ
    old c = one (not (eqb (demand_on c ws p) 0))

    go : (c : ℕ) (t : Bool) → one (not (eqb (cond t w 0 + demand_on c ws p) 0)) ≤ one t + old c
    go c true = omega (arith, one_le (not (eqb (w + demand_on c ws p) 0)))
    go c false = rw (zero-add (demand_on c ws p)) (omega arith)

-- of the choices after p the walk tries the smaller of one more than were made and the number of cores, and leaving out
few_tried : (P : Problem) → AllTwins P → (p : List ℕ) → count (tried P p) (choices P.cores) ≤ min (suc (length p)) P.cores + 1
unfolding is_empty
few_tried P all p =
    let m = P.cores in
    omega (
      arith,
      count-choices (tried P p) m,
      one_empty P all p m (le_refl m),
      one_le (some_empty P p m),
      used (suc m) P.demands p,
      sum_to-front (λ c. one (not (is_empty P p c))) m,
      sum_to_bound (λ c. one (tried P p (suc c))) m 1 (λ c h. one_le (tried P p (suc c))),
    )

-- where every two cores are twins the steps are at most the sum, over k from 1 to n, of the product over j from 1 to k of the smaller of j
-- and m, plus 1
pub walk_steps : (P : Problem) → AllTwins P
    → length (trace P) ≤ sum_from_one (λ k. product_from_one (λ j. min j P.cores + 1) k) (length P.demands)
walk_steps P all = trace_steps P (tried P) (entered-tried P) (λ j. min j P.cores + 1) (few_tried P all)

-- ---- the choices that the permissions leave

module _ (P : Problem) where
  allows : List ℕ → ℕ → Bool
  allows p c = eqb c 0 || permits P (length p) c

  entered_allows : (p : List ℕ) (c b : ℕ) → entered P p c b ≡ true → allows p c ≡ true
  unfolding allows
  entered_allows p zero b e = refl
  entered_allows p (suc c) b e = rw ((core_fits P p (suc c) (entered-fits P p (suc c) b e) (omega arith)).0, or-true)

  few_allowed : (p : List ℕ) → count (allows p) (choices P.cores) ≤ permitted_count (entry P.affinity (length p)) P.cores + 1
  unfolding allows permitted_count
  few_allowed p =
      let m = P.cores in
      omega (
        arith,
        count-choices (allows p) m,
        sum_to_cong (λ c. one (allows p (suc c))) (λ c. one (permits P (length p) (suc c))) m
            (λ c h. ap (λ (b : Bool). one (b || permits P (length p) (suc c))) (ne_eqb (suc c) 0 (λ e. omega arith))),
      )

  -- the steps are at most the sum, over k from 1 to n, of the product over j from 1 to k of how many cores the jth task permits, plus 1
  pub permitted_steps : length (trace P)
      ≤ sum_from_one (λ k. product_from_one (λ j. permitted_count (entry P.affinity (pred j)) P.cores + 1) k) (length P.demands)
  permitted_steps = trace_steps P allows entered_allows (λ j. permitted_count (entry P.affinity (pred j)) P.cores + 1) few_allowed
