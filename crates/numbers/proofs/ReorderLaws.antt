-- A row in another order and back: the same entries, the same sums.
use Prim.Native.Nat.{ℕ, zero, suc, ◌+◌, ◌≤◌, ◌<◌}
use native.Mathlib.Nat.{le_refl}
use native.Mathlib.Omega.{arith}
use mathlib.Core.Path.{◌≡◌, refl, sym, ap, ◌∙◌}
use mathlib.Core.List.{List, [], ◌∷◌}
use lib.Dec.{ltb}
use lib.ListN.{length, get_or, replicate, length-map, length-replicate}
use borrow.Author.Tests.{eq-eqb, lt-ltb}
use Rattle.numbers.specs.Sums.{sum_over, sum_to}
use Rattle.numbers.specs.Sorting.{Permutation, occurs}
use Rattle.numbers.specs.Loads.{demand_on}
use Rattle.numbers.specs.Rows.{padded}
use Rattle.numbers.specs.Reorder.{gather, position, scatter}
use Rattle.numbers.proofs.BoolLaws.{cond_le}
use Rattle.numbers.proofs.RowLaws.{length-tab, get_or-tab, by_entries}
use Rattle.numbers.proofs.SumLaws.{sum_to_ones, sum_over_ones}
use Rattle.numbers.proofs.ZeroLaws.{zero_at, get_or-padded}
use Rattle.numbers.proofs.SortingLaws.{occurs-at, occurs_get, permutation_below, permutation_sum}
use Rattle.numbers.proofs.LoadLaws.{share, demand_listed}

-- ---- a permutation by its entries

occurs_twice : (l : List ℕ) (i k : ℕ) → i < k → k < length l → get_or l i 0 ≡ get_or l k 0 → 2 ≤ occurs (get_or l k 0) l
unfolding occurs sum_over
occurs_twice [] i k h j e = absurd (omega arith)
occurs_twice (s ∷ l) i zero h j e = absurd (omega arith)
occurs_twice (s ∷ l) zero (suc k) h j e = rw (eq-eqb (get_or l k 0) s (sym e)) (omega (arith, occurs_get l k (omega arith)))
occurs_twice (s ∷ l) (suc i) (suc k) h j e = omega (arith, occurs_twice l i k (omega arith) (omega arith) e)

pub get_or-gather : (order row : List ℕ) (k : ℕ) → k < length order → get_or (gather order row) k 0 ≡ get_or row (get_or order k 0) 0
get_or-gather [] row k h = absurd (omega arith)
get_or-gather (t ∷ order) row zero h = refl
get_or-gather (t ∷ order) row (suc k) h = get_or-gather order row k (omega arith)

demand_gathered : (c : ℕ) (order ws q : List ℕ) → demand_on c (gather order ws) (gather order q) ≡ sum_over (share c ws q) order
unfolding demand_on sum_over share
demand_gathered c [] ws q = refl
demand_gathered c (t ∷ order) ws q = ap (λ (s : ℕ). share c ws q t + s) (demand_gathered c order ws q)

-- zeros at the end of a row change nothing
pub scatter-padded : (order p : List ℕ) → scatter order (padded p) ≡ scatter order p
unfolding scatter
scatter-padded order p = simp get_or-padded

module _ (n : ℕ) (order : List ℕ) (perm : Permutation n order) where
  pub order_long : length order ≡ n
  order_long = sym (sum_over_ones order) ∙ permutation_sum n order perm (λ x. 1) ∙ sum_to_ones n

  -- no task is there twice
  entries_differ : (i k : ℕ) → i < k → k < length order → get_or order i 0 ≡ get_or order k 0 → ⊥
  entries_differ i k l h e =
      omega (arith, occurs_twice order i k l h e, perm (get_or order k 0), cond_le (ltb (get_or order k 0) n) 1 1 (le_refl 1))

  -- each task has its place
  pub position_of : (t : ℕ) → t < n → (position order t < length order) × (get_or order (position order t) 0 ≡ t)
  position_of t h = occurs-at t order (rw (perm t, lt-ltb t n h) (omega arith))

  pub position-entry : (k : ℕ) → k < length order → position order (get_or order k 0) ≡ k
  position-entry k h =
      let w = position_of (get_or order k 0) (permutation_below n order perm k h) in
      let a : ¬ (position order (get_or order k 0) < k) = λ l. entries_differ _ k l h w.1 in
      let b : ¬ (k < position order (get_or order k 0)) = λ l. entries_differ k _ l w.0 (sym w.1) in
      omega arith

  -- ---- rows there and back

  pub gather_long : (row : List ℕ) → length (gather order row) ≡ n
  gather_long row = length-map order (λ t. get_or row t 0) ∙ order_long

  get_or_gathered : (row : List ℕ) (k : ℕ) → k < n → get_or (gather order row) k 0 ≡ get_or row (get_or order k 0) 0
  get_or_gathered row k h = get_or-gather order row k (omega (arith, order_long))

  below : (k : ℕ) → k < n → get_or order k 0 < n
  below k h = permutation_below n order perm k (omega (arith, order_long))

  -- the entries of the tasks alone matter
  pub gather_cong : (a b : List ℕ) → ((t : ℕ) → t < n → get_or a t 0 ≡ get_or b t 0) → gather order a ≡ gather order b
  gather_cong a b h =
      by_entries 0 (gather_long a) (gather_long b)
      (λ k l. get_or_gathered a k l ∙ h (get_or order k 0) (below k l) ∙ sym (get_or_gathered b k l))

  pub scatter_long : (p : List ℕ) → length (scatter order p) ≡ n
  unfolding scatter
  scatter_long p = length-tab 0 (length order) (λ t. get_or p (position order t) 0) ∙ order_long

  pub get_or-scatter : (p : List ℕ) (t : ℕ) → t < n → get_or (scatter order p) t 0 ≡ get_or p (position order t) 0
  unfolding scatter
  get_or-scatter p t h = get_or-tab 0 (length order) (λ t. get_or p (position order t) 0) t (omega (arith, order_long))

  pub gather-scatter : (p : List ℕ) → length p ≡ n → gather order (scatter order p) ≡ p
  gather-scatter p e =
      by_entries 0 (gather_long (scatter order p)) e
      (λ k l. get_or_gathered (scatter order p) k l ∙ get_or-scatter p (get_or order k 0) (below k l)
      ∙ ap (λ (i : ℕ). get_or p i 0) (position-entry k (omega (arith, order_long))))

  pub scatter-gather : (q : List ℕ) → length q ≡ n → scatter order (gather order q) ≡ q
  scatter-gather q e =
      by_entries 0 (scatter_long (gather order q)) e
      (λ t l. let w = position_of t l in
      get_or-scatter (gather order q) t l ∙ get_or-gather order q (position order t) w.0 ∙ ap (λ (s : ℕ). get_or q s 0) w.1)

  -- zeros stay zeros
  pub scatter-none : scatter order (replicate n 0) ≡ replicate n 0
  scatter-none =
      by_entries 0 (scatter_long (replicate n 0)) (length-replicate n 0)
      (λ t l. get_or-scatter (replicate n 0) t l ∙ zero_at n (position order t) ∙ sym (zero_at n t))

  -- ---- the demand on a choice

  pub demand_on-gather : (c : ℕ) (ws q : List ℕ) → length ws ≡ n → length q ≡ n → demand_on c (gather order ws) (gather order q) ≡ demand_on c ws q
  demand_on-gather c ws q w e =
      demand_gathered c order ws q ∙ permutation_sum n order perm (share c ws q) ∙ ap (sum_to (share c ws q)) (sym e) ∙ sym (demand_listed c ws q (omega arith))

  pub demand_on-scatter : (c : ℕ) (ws p : List ℕ) → length ws ≡ n → length p ≡ n → demand_on c ws (scatter order p) ≡ demand_on c (gather order ws) p
  demand_on-scatter c ws p w e =
      sym (demand_on-gather c ws (scatter order p) w (scatter_long p)) ∙ ap (λ (l : List ℕ). demand_on c (gather order ws) l) (gather-scatter p e)
