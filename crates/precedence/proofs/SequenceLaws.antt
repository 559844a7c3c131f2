-- Where there is no circle, the computed order is the order.
use Prim.Native.Nat.{ℕ, zero, suc, pred, ◌+◌, ◌-◌, ◌≤◌, ◌<◌}
use mathlib.Core.Path.{◌≡◌, refl, sym, ◌∙◌}
use mathlib.Core.Bool.{Bool, true, false, cond, not, true≢false}
use mathlib.Core.List.{List, [], ◌∷◌, ◌++◌}
use mathlib.Core.Logic.{◌↔◌, ⊎_elim, by_cases}
use lib.ListN.{length, get_or, length-append, get_or-append, get_or-eq_default}
use lib.Seq.{get_or_at}
use native.Mathlib.Decide.{ℕ_discrete}
use native.Mathlib.Omega.{arith}
use borrow.Author.Tests.{eq-eqb, ne_eqb, lt-ltb, not-true, not-false}
use Rattle.numbers.specs.First.{first, IsFirst}
use Rattle.numbers.specs.Rows.{padded}
use Rattle.numbers.specs.Sums.{sum_to}
use Rattle.numbers.proofs.BoolLaws.{true_or_false, cond_le}
use Rattle.numbers.proofs.BoundLaws.{not_less}
use Rattle.numbers.proofs.FirstLaws.{Holds, first_is, first_zero}
use Rattle.numbers.proofs.ZeroLaws.{get_or-padded}
use Rattle.numbers.proofs.SumLaws.{sum_to_cong, sum_to_bound, sum_to_add, sum_to_ones, sum_to-full, only, sum_to-only}
use Rattle.precedence.specs.Paths.{Task, AmongTasks, OnCircle}
use Rattle.precedence.specs.Order.{Stands, Ready, IsOrder}
use Rattle.precedence.specs.Circles.{reach}
use Rattle.precedence.specs.Sequence.{stands, is_ready, next_task, with_next, ordered}
use Rattle.precedence.proofs.CircleLaws.{reach-feeds, reach_joins, reach_path}
use Rattle.precedence.proofs.ReadyLaws.{stands_last, stands_exactly, ready_exactly}
use Rattle.precedence.proofs.OrderLaws.{ready-same}

-- ---- the computed list, entry by entry

module _ (f : ℕ → ℕ → Bool) (n : ℕ) where
  pub ordered-length : (i : ℕ) → length (ordered f n i) ≡ i
  unfolding ordered with_next
  ordered-length zero = refl
  ordered-length (suc i) = length-append (ordered f n i) (next_task f n (stands (ordered f n i)) ∷ []) ∙ omega (arith, ordered-length i)

  ordered-here : (i : ℕ) → get_or (ordered f n (suc i)) i 0 ≡ next_task f n (stands (ordered f n i))
  unfolding ordered with_next
  ordered-here i = get_or_at (ordered f n i) (next_task f n (stands (ordered f n i))) [] 0 i (ordered-length i)

  -- a longer list begins as a shorter one
  ordered-front : (i w : ℕ) → (j : ℕ) → j < i → get_or (ordered f n (w + i)) j 0 ≡ get_or (ordered f n i) j 0
  unfolding ordered with_next
  ordered-front i zero j h = let e : 0 + i ≡ i = omega arith in rw e
  ordered-front i (suc w) j h =
      let e : suc w + i ≡ suc (w + i) = omega arith in
      rw e (get_or-append (ordered f n (w + i)) (next_task f n (stands (ordered f n (w + i))) ∷ []) 0 j (omega (arith, ordered-length (w + i)))
      ∙ ordered-front i w j h)

-- ---- how many tasks stand

abbrev counted : List ℕ → ℕ → ℕ
counted l n = sum_to (λ k. cond (stands l (suc k)) 1 0) n

counted_last : (l : List ℕ) (n k : ℕ) → k < n → stands l (suc k) ≡ false → counted (l ++ (suc k ∷ [])) n ≡ counted l n + 1
counted_last l n k h e =
    sum_to_cong (λ j. cond (stands (l ++ (suc k ∷ [])) (suc j)) 1 0) (λ j. cond (stands l (suc j)) 1 0 + only k (λ x. 1) j) n (λ j b. each j)
    ∙ sum_to_add (λ j. cond (stands l (suc j)) 1 0) (only k (λ x. 1)) n
    ∙ rw (sum_to-only k (λ x. 1) n, lt-ltb k n h)
  where
    each : (j : ℕ) → cond (stands (l ++ (suc k ∷ [])) (suc j)) 1 0 ≡ cond (stands l (suc j)) 1 0 + only k (λ x. 1) j
    each j =
        by_cases (ℕ_discrete k j)
        (λ d. rw (stands_last, ← d, e, eq-eqb (suc k) (suc k) refl, eq-eqb k k refl))
        (λ d. rw (stands_last, ne_eqb (suc k) (suc j) (λ q. d (omega arith)), ne_eqb k j d)
        (⊎_elim (λ s. rw s) (λ s. rw s) (true_or_false (stands l (suc j)))))

-- fewer than n stand: one does not
not_all_lem : (l : List ℕ) (n : ℕ) → counted l n < n → (k : ℕ) × (k < n) × (stands l (suc k) ≡ false)
not_all_lem l n h =
    by_cases (ℕ_discrete (first (λ k. not (stands l (suc k))) n) 0)
    (λ e. absurd (omega (arith, all e)))
    (λ d. let i = first_is (λ k. not (stands l (suc k))) n (pred (first (λ k. not (stands l (suc k))) n)) (omega arith) in
    (pred (first (λ k. not (stands l (suc k))) n), i.below, not-true _ i.here))
  where
    all : first (λ k. not (stands l (suc k))) n ≡ 0 → counted l n ≡ n
    all e =
        sum_to_cong (λ k. cond (stands l (suc k)) 1 0) (λ k. 1) n
        (λ k b. let here : stands l (suc k) ≡ true = not-false _ (first_zero (λ k. not (stands l (suc k))) n e k b) in rw here)
        ∙ sum_to_ones n

-- ---- a relation that can be joined and leads nowhere back: in each set some member to which nothing of the set leads

module _ (n : ℕ) (r : ℕ → ℕ → Bool) (s : ℕ → Bool)
    (joins : (m : ℕ) → Task n m → (a b : ℕ) → r a m ≡ true → r m b ≡ true → r a b ≡ true)
    (back : (t : ℕ) → r t t ≡ true → ⊥) where
  -- c is of the set, and nothing of the set from 1 to k leads to it
  record Source (k c : ℕ) : Type 0 where
    task : Task n c
    of : s c ≡ true
    none : (y : ℕ) → 1 ≤ y → y ≤ k → s y ≡ true → r y c ≡ true → ⊥

  source : (x : ℕ) → Task n x → s x ≡ true → (k : ℕ) → k ≤ n → (c : ℕ) × Source k c
  source x t e zero h = (x, record { task = t; of = e; none = λ y a b. absurd (omega arith) })
  source x t e (suc k) h =
      let ih = source x t e k (omega arith) in
      let here : Task n (suc k) = record { least = omega arith; most = h } in
      let stays : (s (suc k) ≡ true → r (suc k) ih.0 ≡ true → ⊥) → (c : ℕ) × Source (suc k) c =
      λ no_way. (
        ih.0,
        record {
          task = ih.1.task;
          of = ih.1.of;
          none = λ y a b i j.
              by_cases (ℕ_discrete y (suc k)) (λ d. no_way (rw d at i) (rw d at j)) (λ d. ih.1.none y a (omega arith) i j);
        },
      ) in
      ⊎_elim
      (λ u. ⊎_elim
      (λ v. (
        suc k,
        record {
          task = here;
          of = u;
          none = λ y a b i j.
              by_cases (ℕ_discrete y (suc k)) (λ d. back (suc k) (rw d at j))
              (λ d. ih.1.none y a (omega arith) i (joins (suc k) here y ih.0 j v));
        },
      ))
      (λ v. stays (λ i j. true≢false (sym j ∙ v)))
      (true_or_false (r (suc k) ih.0)))
      (λ u. stays (λ i j. true≢false (sym i ∙ u)))
      (true_or_false (s (suc k)))

-- ---- where there is no circle

module _ {f : ℕ → ℕ → Bool} {Feeds : ℕ → ℕ → Type 0} (decided : (a b : ℕ) → (f a b ≡ true) ↔ Feeds a b) {n : ℕ} (among : AmongTasks n Feeds)
    (open-ended : (t : ℕ) → OnCircle Feeds t → ⊥) where
  -- while some task does not stand, one is ready
  some_ready : (l : List ℕ) (x : ℕ) → Task n x → stands l x ≡ false → (k : ℕ) × (k < n) × Ready Feeds n l (length l) (suc k)
  some_ready l x t e =
      let c = source n (reach f n) (λ y. not (stands l y)) (reach_joins f n) (λ y h. open-ended y (reach_path decided n y y h)) x t (rw e) n (omega arith) in
      let d : suc (pred c.0) ≡ c.0 = omega (arith, c.1.task.least) in (
        pred c.0,
        omega (arith, c.1.task.least, c.1.task.most),
        rw d (record {
          task = c.1.task;
          new = λ s. true≢false (sym ((stands_exactly l c.0).1 s) ∙ not-true _ c.1.of);
          fed = λ a h. (stands_exactly l a).0
              (⊎_elim (λ y. y)
              (λ y. let k = (among a c.0 h).0 in
              absurd (c.1.none a k.least k.most (rw y) (reach-feeds f n a c.0 ((decided a c.0).1 h))))
              (true_or_false (stands l a)));
        }),
      )

  -- then the next task is the lowest of those that are
  next_first : (l : List ℕ) → counted l n < n → (k : ℕ) × (next_task f n (stands l) ≡ suc k) × IsFirst (Holds (is_ready f n (stands l))) n k
  unfolding next_task
  next_first l h =
      let x = not_all_lem l n h in
      let r = some_ready l (suc x.0) (record { least = omega arith; most = x.1 }) x.2 in
      by_cases (ℕ_discrete (first (is_ready f n (stands l)) n) 0)
      (λ e. absurd (true≢false (sym ((ready_exactly decided among l r.0 r.1).1 r.2) ∙ first_zero (is_ready f n (stands l)) n e r.0 r.1)))
      (λ d. let e : first (is_ready f n (stands l)) n ≡ suc (pred (first (is_ready f n (stands l)) n)) = omega arith in
      (pred (first (is_ready f n (stands l)) n), e, first_is (is_ready f n (stands l)) n _ e))

  next_ready : (l : List ℕ) → counted l n < n → Ready Feeds n l (length l) (next_task f n (stands l))
  next_ready l h = let x = next_first l h in rw x.1 ((ready_exactly decided among l x.0 x.2.below).0 x.2.here)

  next_lowest : (l : List ℕ) → counted l n < n → (t : ℕ) → Ready Feeds n l (length l) t → next_task f n (stands l) ≤ t
  next_lowest l h t r =
      let x = next_first l h in
      let d : suc (pred t) ≡ t = omega (arith, r.task.least) in
      not_less t (next_task f n (stands l)) (λ b.
      x.2.none (pred t) (omega (arith, x.1, r.task.least))
      ((ready_exactly decided among l (pred t) (omega (arith, r.task.least, r.task.most))).1 (rw d r)))

  -- one more stands
  counted_next : (l : List ℕ) → counted l n < n → counted (with_next f n l) n ≡ counted l n + 1
  unfolding with_next
  counted_next l h =
      let x = next_first l h in
      let r : Ready Feeds n l (length l) (suc x.0) = (ready_exactly decided among l x.0 x.2.below).0 x.2.here in
      let new : stands l (suc x.0) ≡ false =
      ⊎_elim (λ s. absurd (r.new ((stands_exactly l (suc x.0)).0 s))) (λ s. s) (true_or_false (stands l (suc x.0))) in
      rw x.1 (counted_last l n x.0 x.2.below new)

  ordered-counted : (i : ℕ) → i ≤ n → counted (ordered f n i) n ≡ i
  unfolding ordered stands
  ordered-counted zero h = omega (arith, sum_to_bound (λ k. cond (stands [] (suc k)) 1 0) n 0 (λ k b. omega arith))
  ordered-counted (suc i) h =
      let ih = ordered-counted i (omega arith) in
      omega (arith, ih, counted_next (ordered f n i) (omega (arith, ih)))

  -- ---- the row of sixteen

  abbrev order : List ℕ
  order = padded (ordered f n n)

  front : (i : ℕ) → i ≤ n → (j : ℕ) → j < i → get_or (ordered f n i) j 0 ≡ get_or order j 0
  front i h j b =
      let e : n - i + i ≡ n = omega arith in
      sym (get_or-padded (ordered f n n) j ∙ rw e at (ordered-front f n i (n - i) j b))

  here : (i : ℕ) → i < n → get_or order i 0 ≡ next_task f n (stands (ordered f n i))
  here i h = sym (front (suc i) h i (omega arith)) ∙ ordered-here f n i

  order-ready : (i : ℕ) → i < n → Ready Feeds n order i (get_or order i 0)
  order-ready i h =
      rw (here i h) (ready-same among (front i (omega arith))
      (rw (ordered-length f n i) at (next_ready (ordered f n i) (omega (arith, ordered-counted i (omega arith))))))

  order_once : (i j : ℕ) → i < n → j < n → get_or order i 0 ≡ get_or order j 0 → i ≡ j
  order_once i j h g e =
      let a : ¬ (i < j) = λ l. (order-ready j g).new (i, l, e) in
      let b : ¬ (j < i) = λ l. (order-ready i h).new (j, l, sym e) in
      omega arith

  order-each : (t : ℕ) → Task n t → Stands order n t
  order-each t k =
      let d : suc (pred t) ≡ t = omega (arith, k.least) in
      let one : ◌≡◌ {A = ℕ} (cond (stands (ordered f n n) (suc (pred t))) 1 0) 1 =
      sum_to-full (λ k. cond (stands (ordered f n n) (suc k)) 1 0) n (λ k b. cond_le (stands (ordered f n n) (suc k)) 1 1 (omega arith))
      (ordered-counted n (omega arith)) (pred t) (omega (arith, k.least, k.most)) in
      let s : Stands (ordered f n n) (length (ordered f n n)) t =
      (stands_exactly (ordered f n n) t).0
      (⊎_elim (λ e. e) (λ (e : stands (ordered f n n) t ≡ false). let z : ◌≡◌ {A = ℕ} 0 1 = rw (d, e) at one in absurd (omega arith))
      (true_or_false (stands (ordered f n n) t))) in
      let b : s.0 < n = omega (arith, s.1, ordered-length f n n) in
      (s.0, b, sym (front n (omega arith) s.0 b) ∙ s.2)

  pub ordered_is : IsOrder Feeds n order
  ordered_is = record {
    tasks = λ i h. (order-ready i h).task;
    each = order-each;
    once = order_once;
    after = λ i j h g e.
        let s = (order-ready j g).fed (get_or order i 0) e in
        omega (arith, s.1, order_once s.0 i (omega (arith, s.1)) h s.2);
    lowest = λ i h t r.
        rw (here i h) (next_lowest (ordered f n i) (omega (arith, ordered-counted i (omega arith))) t
        (rw (ordered-length f n i) (ready-same among (λ j b. sym (front i (omega arith) j b)) r)));
    beyond = λ i h. get_or-padded (ordered f n n) i ∙ get_or-eq_default (ordered f n n) 0 (omega (arith, ordered-length f n n));
  }
