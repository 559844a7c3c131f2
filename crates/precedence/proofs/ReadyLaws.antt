-- What stands in a list, and which task is ready behind it, as computed and as stated.
use Prim.Native.Nat.{ℕ, zero, suc, pred, ◌<◌}
use mathlib.Core.Path.{◌≡◌, refl, sym, ◌∙◌}
use mathlib.Core.Bool.{Bool, true, false, not, ◌&&◌, ◌||◌, or-true, or-false, and-false, true≢false}
use mathlib.Core.List.{List, [], ◌∷◌, ◌++◌}
use mathlib.Core.Logic.{◌↔◌, ⊎_elim}
use lib.Dec.{eqb}
use lib.ListN.{length, get_or}
use native.Mathlib.Omega.{arith}
use borrow.Author.Tests.{eq-eqb, eqb-true, not-true, not-false}
use Rattle.numbers.proofs.BoolLaws.{true_or_false, or_cases, and_left, and_right}
use Rattle.numbers.proofs.FirstLaws.{first_zero, first_clear}
use Rattle.precedence.specs.Paths.{AmongTasks}
use Rattle.precedence.specs.Order.{Stands, Ready}
use Rattle.precedence.specs.Sequence.{stands, holds_up, waits, is_ready}

-- ---- what stands in a list

pub stands_last : (l : List ℕ) (x t : ℕ) → stands (l ++ (x ∷ [])) t ≡ (stands l t || eqb x t)
unfolding stands
stands_last [] x t = or-false (eqb x t)
stands_last (y ∷ l) x t = ⊎_elim (λ e. rw e) (λ e. rw e (stands_last l x t)) (true_or_false (eqb y t))

-- as computed and as stated
stands_at : (l : List ℕ) (t : ℕ) → stands l t ≡ true → Stands l (length l) t
unfolding stands
stands_at [] t h = absurd (true≢false (sym h))
stands_at (x ∷ l) t h =
    ⊎_elim
    (λ e. (0, omega arith, eqb-true x t e))
    (λ e. let s = stands_at l t e in (suc s.0, omega (arith, s.1), s.2))
    (or_cases (eqb x t) (stands l t) h)

at-stands : (l : List ℕ) (j : ℕ) → j < length l → stands l (get_or l j 0) ≡ true
unfolding stands
at-stands [] j h = absurd (omega arith)
at-stands (x ∷ l) zero h = rw (eq-eqb x x refl)
at-stands (x ∷ l) (suc j) h = rw (at-stands l j (omega arith), or-true)

pub stands_exactly : (l : List ℕ) (t : ℕ) → (stands l t ≡ true) ↔ Stands l (length l) t
stands_exactly l t = (stands_at l t, λ s. rw s.2 at (at-stands l s.0 s.1))

-- ---- as computed and as stated

module _ {f : ℕ → ℕ → Bool} {Feeds : ℕ → ℕ → Type 0} (decided : (a b : ℕ) → (f a b ≡ true) ↔ Feeds a b) {n : ℕ} (among : AmongTasks n Feeds) (l : List ℕ) where
  -- all that feed t stand
  fed-stands : (t : ℕ) → waits f n (stands l) t ≡ false → (a : ℕ) → Feeds a t → stands l a ≡ true
  unfolding waits holds_up
  fed-stands t e a h =
      let k = (among a t h).0 in
      let d : suc (pred a) ≡ a = omega (arith, k.least) in
      let none : (f (suc (pred a)) t && not (stands l (suc (pred a)))) ≡ false =
      first_zero (λ k. f (suc k) t && not (stands l (suc k))) n (eqb-true _ 0 (not-false _ e)) (pred a) (omega (arith, k.least, k.most)) in
      let here : not (stands l a) ≡ false = rw (d, (decided a t).1 h) at none in
      not-false _ here

  stands-fed : (t : ℕ) → ((a : ℕ) → Feeds a t → stands l a ≡ true) → waits f n (stands l) t ≡ false
  unfolding waits holds_up
  stands-fed t h =
      rw (first_clear (λ k. f (suc k) t && not (stands l (suc k))) n
      (λ k b. ⊎_elim (λ e. rw (h (suc k) ((decided (suc k) t).0 e)) (and-false (f (suc k) t))) (λ e. rw e) (true_or_false (f (suc k) t))))

  pub ready_exactly : (k : ℕ) → k < n → (is_ready f n (stands l) k ≡ true) ↔ Ready Feeds n l (length l) (suc k)
  unfolding is_ready
  ready_exactly k b = (
    λ e.
        let new : stands l (suc k) ≡ false = not-true _ (and_left (not (stands l (suc k))) (not (waits f n (stands l) (suc k))) e) in
        let fed : waits f n (stands l) (suc k) ≡ false = not-true _ (and_right (not (stands l (suc k))) (not (waits f n (stands l) (suc k))) e) in
        record {
          task = record { least = omega arith; most = b };
          new = λ s. true≢false (sym ((stands_exactly l (suc k)).1 s) ∙ new);
          fed = λ a h. (stands_exactly l a).0 (fed-stands (suc k) fed a h);
        },
    λ r.
        rw (
          ⊎_elim (λ e. absurd (r.new ((stands_exactly l (suc k)).0 e))) (λ e. e) (true_or_false (stands l (suc k))),
          stands-fed (suc k) (λ a h. (stands_exactly l a).1 (r.fed a h)),
        ),
  )
