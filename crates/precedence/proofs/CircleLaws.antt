-- The closure decides which paths there are, and so which tasks lie on a circle.
use Prim.Native.Nat.{ℕ, zero, suc, pred}
use mathlib.Core.Path.{◌≡◌}
use mathlib.Core.Bool.{Bool, true, ◌&&◌, or-true}
use mathlib.Core.Logic.{◌⊎◌, ◌↔◌, ⊎_elim, ⊎_map, by_cases}
use native.Mathlib.Decide.{ℕ_discrete}
use native.Mathlib.Omega.{arith}
use Rattle.numbers.specs.First.{IsFirst}
use Rattle.numbers.proofs.BoolLaws.{or_cases, and_left, and_right}
use Rattle.numbers.proofs.BoundLaws.{not_less}
use Rattle.precedence.specs.Paths.{Task, AmongTasks, Path, one, more, OnCircle, LowestOnCircle}
use Rattle.precedence.specs.Circles.{through, reach, circular}

-- ---- one step of the closure

module _ (r : ℕ → ℕ → Bool) (k : ℕ) where
  through_old : (a b : ℕ) → r a b ≡ true → through r k a b ≡ true
  unfolding through
  through_old a b h = rw h

  through-new : (a b : ℕ) → r a k ≡ true → r k b ≡ true → through r k a b ≡ true
  unfolding through
  through-new a b h g = rw (h, g, or-true)

  through_cases : (a b : ℕ) → through r k a b ≡ true → (r a b ≡ true) ⊎ ((r a k ≡ true) × (r k b ≡ true))
  unfolding through
  through_cases a b h = ⊎_map (λ e. e) (λ e. (and_left (r a k) (r k b) e, and_right (r a k) (r k b) e)) (or_cases (r a b) (r a k && r k b) h)

  -- nothing new leads to k, or from k
  through_here : (a b : ℕ) → through r k a k ≡ true → through r k k b ≡ true → through r k a b ≡ true
  through_here a b h g =
      through-new a b (⊎_elim (λ e. e) (λ e. e.0) (through_cases a k h)) (⊎_elim (λ e. e) (λ e. e.1) (through_cases k b g))

  -- what can be joined at m stays so
  through_joins : (m : ℕ) → ((a b : ℕ) → r a m ≡ true → r m b ≡ true → r a b ≡ true)
      → (a b : ℕ) → through r k a m ≡ true → through r k m b ≡ true → through r k a b ≡ true
  through_joins m joins a b h g =
      ⊎_elim
      (λ x. ⊎_elim (λ y. through_old a b (joins a b x y)) (λ y. through-new a b (joins a k x y.0) y.1) (through_cases m b g))
      (λ x. ⊎_elim (λ y. through-new a b x.0 (joins k b x.1 y)) (λ y. through-new a b x.0 y.1) (through_cases m b g))
      (through_cases a m h)

-- ---- the closure

module _ (f : ℕ → ℕ → Bool) where
  pub reach-feeds : (n a b : ℕ) → f a b ≡ true → reach f n a b ≡ true
  unfolding reach
  reach-feeds zero a b h = h
  reach-feeds (suc n) a b h = through_old (reach f n) _ a b (reach-feeds n a b h)

  -- two ways that meet at one of the tasks 1 to n
  pub reach_joins : (n m : ℕ) → Task n m → (a b : ℕ) → reach f n a m ≡ true → reach f n m b ≡ true → reach f n a b ≡ true
  unfolding reach
  reach_joins zero m t a b h g = absurd (omega (arith, t.least, t.most))
  reach_joins (suc n) m t a b h g =
      by_cases (ℕ_discrete m (suc n))
      (λ e. through_here (reach f n) (suc n) a b (rw e at h) (rw e at g))
      (λ d. through_joins (reach f n) (suc n) m (reach_joins n m (record { least = t.least; most = omega (arith, t.most) })) a b h g)

-- ---- paths

module _ {Feeds : ℕ → ℕ → Type 0} where
  join : {a b c : ℕ} → Path Feeds a b → Path Feeds b c → Path Feeds a c
  join (one e) q = more e q
  join (more e p) q = more e (join p q)

  pub path_task : {n : ℕ} → AmongTasks n Feeds → {a b : ℕ} → Path Feeds a b → Task n a
  path_task among (one {a} {b} e) = (among a b e).0
  path_task among (more {a} {b} e p) = (among a b e).0

  -- the first task on a circle is the lowest
  pub first_lowest : {n k : ℕ} → AmongTasks n Feeds → IsFirst (λ t. OnCircle Feeds (suc t)) n k → LowestOnCircle Feeds (suc k)
  first_lowest {n} {k} among i = record {
    circle = i.here;
    lowest = λ u p.
        let t = path_task among p in
        let e : suc (pred u) ≡ u = omega (arith, t.least) in
        not_less u (suc k) (λ l. i.none (pred u) (omega arith) (rw e p));
  }

-- ---- the closure of a relation that is decided

module _ {f : ℕ → ℕ → Bool} {Feeds : ℕ → ℕ → Type 0} (decided : (a b : ℕ) → (f a b ≡ true) ↔ Feeds a b) where
  -- where it says so there is a path,
  pub reach_path : (n a b : ℕ) → reach f n a b ≡ true → Path Feeds a b
  unfolding reach
  reach_path zero a b h = one ((decided a b).0 h)
  reach_path (suc n) a b h =
      ⊎_elim (λ e. reach_path n a b e) (λ e. join (reach_path n a (suc n) e.0) (reach_path n (suc n) b e.1))
      (through_cases (reach f n) (suc n) a b h)

  -- and where there is a path it says so.
  path_reach : (n : ℕ) → AmongTasks n Feeds → {a b : ℕ} → Path Feeds a b → reach f n a b ≡ true
  path_reach n among (one {a} {b} e) = reach-feeds f n a b ((decided a b).1 e)
  path_reach n among (more {a} {b} {c} e p) =
      reach_joins f n b (among a b e).1 a c (reach-feeds f n a b ((decided a b).1 e)) (path_reach n among p)

  pub circular_exactly : (n : ℕ) → AmongTasks n Feeds → (k : ℕ) → (circular f n k ≡ true) ↔ OnCircle Feeds (suc k)
  unfolding circular
  circular_exactly n among k = (reach_path n (suc k) (suc k), path_reach n among)
