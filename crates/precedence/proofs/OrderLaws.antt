-- There is one order at most, and none where there is a circle.
use Prim.Native.Nat.{ℕ, zero, suc, ◌≤◌, ◌<◌}
use mathlib.Core.Path.{◌≡◌, refl, sym, ◌∙◌}
use mathlib.Core.List.{List}
use mathlib.Core.Logic.{by_cases}
use lib.ListN.{length, get_or}
use native.Mathlib.Nat.{le_antisymm}
use native.Mathlib.Decide.{dec_lt}
use native.Mathlib.Omega.{arith}
use Rattle.numbers.proofs.RowLaws.{by_entries}
use Rattle.precedence.specs.Paths.{AmongTasks, Path, one, more, OnCircle}
use Rattle.precedence.specs.Order.{Ready, IsOrder}
use Rattle.precedence.proofs.CircleLaws.{path_task}

module _ {Feeds : ℕ → ℕ → Type 0} {n : ℕ} (among : AmongTasks n Feeds) where
  -- what stands at a place is ready there
  pub stands-ready : {order : List ℕ} → IsOrder Feeds n order → (i : ℕ) → i < n → Ready Feeds n order i (get_or order i 0)
  stands-ready {order} o i h = record {
    task = o.tasks i h;
    new = λ s. omega (arith, s.1, o.once s.0 i (omega (arith, s.1)) h s.2);
    fed = λ a e.
        let s = o.each a (among a (get_or order i 0) e).0 in
        (s.0, o.after s.0 i s.1 h (rw s.2 e), s.2);
  }

  -- ready by the places before alone
  pub ready-same : {p q : List ℕ} {i t : ℕ} → ((j : ℕ) → j < i → get_or p j 0 ≡ get_or q j 0) → Ready Feeds n p i t → Ready Feeds n q i t
  ready-same same r = record {
    task = r.task;
    new = λ s. r.new (s.0, s.1, same s.0 s.1 ∙ s.2);
    fed = λ a e. let s = r.fed a e in (s.0, s.1, sym (same s.0 s.1) ∙ s.2);
  }

  module _ {p q : List ℕ} (u : IsOrder Feeds n p) (v : IsOrder Feeds n q) where
    same-before : (i : ℕ) → i ≤ n → (j : ℕ) → j < i → get_or p j 0 ≡ get_or q j 0
    same-before zero h j l = absurd (omega arith)
    same-before (suc i) h j l =
        let ih = same-before i (omega arith) in
        by_cases (dec_lt j i) (ih j)
        (λ (b : ¬ (j < i)). let e : j ≡ i = omega arith in
        rw e (le_antisymm
        (u.lowest i h (get_or q i 0) (ready-same (λ k b. sym (ih k b)) (stands-ready v i h)))
        (v.lowest i h (get_or p i 0) (ready-same ih (stands-ready u i h)))))

    -- Two orders are the same.
    pub order_unique : length p ≡ length q → p ≡ q
    order_unique e =
        by_entries 0 e refl (λ k b.
        by_cases (dec_lt k n) (same-before n (omega arith) k)
        (λ (l : ¬ (k < n)). u.beyond k (omega arith) ∙ sym (v.beyond k (omega arith))))

  -- Along a path places rise,
  rises : {order : List ℕ} → IsOrder Feeds n order → {a b : ℕ} → Path Feeds a b → (i j : ℕ) → i < n → j < n → get_or order i 0 ≡ a → get_or order j 0 ≡ b → i < j
  rises o (one e) i j h g x y = o.after i j h g (rw (x, y) e)
  rises o (more {a} {b} e p) i j h g x y =
      let m = o.each b (among a b e).1 in
      omega (arith, o.after i m.0 h m.1 (rw (x, m.2) e), rises o p m.0 j m.1 g m.2 y)

  -- so where there is an order no task lies on a circle.
  pub order_no_circle : {order : List ℕ} → IsOrder Feeds n order → (t : ℕ) → OnCircle Feeds t → ⊥
  order_no_circle o t c = let m = o.each t (path_task among c) in omega (arith, rises o c m.0 m.0 m.1 m.1 m.2 m.2)
