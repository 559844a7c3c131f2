-- Laws of cells: one pair more, one step of the closure, all steps.
use Prim.Native.Nat.{ℕ, zero, suc, ◌+◌, ◌*◌, ◌/◌, ◌%◌, ◌≤◌, ◌<◌}
use mathlib.Core.Path.{◌≡◌, refl, sym, ◌∙◌, ap}
use mathlib.Core.Bool.{Bool, true, false, ◌&&◌, ◌||◌, or-true, or-false, and-false}
use mathlib.Core.List.{List}
use mathlib.Core.Logic.{◌⊎◌, ⊎_elim, by_cases}
use lib.Dec.{eqb}
use lib.ListN.{length, get_or, set, replicate, length-set, length-replicate, get_or-replicate}
use lib.Seq.{get_or-set_same, get_or-set_other}
use native.Mathlib.Decide.{ℕ_discrete}
use native.Mathlib.Omega.{arith}
use borrow.Author.Tests.{eq-eqb, ne_eqb}
use Rattle.std.specs.Prelude.{Option}
use Rattle.std.specs.Option.{unwrap_or}
use Rattle.numbers.specs.First.{first, found}
use Rattle.numbers.proofs.FirstLaws.{first_cong}
use Rattle.precedence.specs.Circles.{through, reach, circular}
use Rattle.relation.specs.Cells.{edge, Cells, with_pair, through_at}

-- no task feeds another
pub cells_none : (f : ℕ → ℕ → Bool) → ((a b : ℕ) → f a b ≡ false) → Cells (replicate 289 false) f
unfolding edge
cells_none f h = record { size = length-replicate 289 false; at = λ a b x y. get_or-replicate 289 (a * 17 + b) false false (omega arith) ∙ sym (h a b) }

-- ---- one pair more

module _ (cells : List Bool) (a b : ℕ) (size : length cells ≡ 289) where
  -- a number above 16 is not among them
  past_left : 16 < a → Cells cells (with_pair (edge cells) a b)
  unfolding with_pair
  past_left h = record { size = size; at = λ x y p q. sym (rw (ne_eqb a x (λ e. omega arith)) (or-false _)) }

  past_right : 16 < b → Cells cells (with_pair (edge cells) a b)
  unfolding with_pair
  past_right h = record { size = size; at = λ x y p q. sym (rw (ne_eqb b y (λ e. omega arith), and-false) (or-false _)) }

  pub pair_past : (a ≤ 16 × 16 < b) ⊎ (16 < a) → Cells cells (with_pair (edge cells) a b)
  pair_past h = ⊎_elim (λ r. past_right r.1) past_left h

  pub pair_set : a ≤ 16 → b ≤ 16 → Cells (set cells (a * 17 + b) true) (with_pair (edge cells) a b)
  unfolding with_pair edge
  pair_set h g = record {
    size = length-set cells (a * 17 + b) true ∙ size;
    at = λ x y p q.
        by_cases (ℕ_discrete (x * 17 + y) (a * 17 + b))
        (λ e. let u : a ≡ x = omega arith in let v : b ≡ y = omega arith in
        rw (e, get_or-set_same cells (a * 17 + b) true false (omega (arith, size)), eq-eqb a x u, eq-eqb b y v, or-true))
        (λ d. get_or-set_other cells (a * 17 + b) (x * 17 + y) true false d
        ∙ sym (ap (λ t. get_or cells (x * 17 + y) false || t) (other x y d) ∙ or-false _));
  }
    where
      other : (x y : ℕ) → ((x * 17 + y ≡ a * 17 + b) → ⊥) → (eqb a x && eqb b y) ≡ false
      other x y d =
          by_cases (ℕ_discrete a x)
          (λ (e : a ≡ x). rw (ne_eqb b y (λ q. d (omega arith))) (and-false (eqb a x)))
          (λ n. rw (ne_eqb a x n))

-- ---- a loop that fills the cells

-- the first c cells are those of g
pub record Filled (g : ℕ → Bool) (row : List Bool) (c : ℕ) : Type 0 where
  pub size : length row ≡ 289
  pub top : c ≤ 289
  pub at : (j : ℕ) → j < c → get_or row j false ≡ g j

pub fill_start : (g : ℕ → Bool) (row : List Bool) → length row ≡ 289 → Filled g row 0
fill_start g row e = record { size = e; top = omega arith; at = λ j h. absurd (omega arith) }

pub fill_next : {g : ℕ → Bool} {row : List Bool} {c : ℕ} {v : Bool} → Filled g row c → c < 289 → v ≡ g c → Filled g (set row c v) (c + 1)
fill_next {g} {row} {c} {v} s h e = record {
  size = length-set row c v ∙ s.size;
  top = omega arith;
  at = λ j b.
      by_cases (ℕ_discrete j c)
      (λ d. rw d (get_or-set_same row c v false (omega (arith, s.size)) ∙ e))
      (λ d. get_or-set_other row c j v false d ∙ s.at j (omega arith));
}

-- ---- the closure

pub step_done : (cells : List Bool) {row : List Bool} {k c : ℕ} → k < 17 → Filled (through_at cells k) row c → 289 ≤ c → Cells row (through (edge cells) k)
unfolding edge through through_at
step_done cells {row} {k} h s l = record {
  size = s.size;
  at = λ a b x y.
      let d : (a * 17 + b) / 17 ≡ a = omega arith in
      let m : (a * 17 + b) % 17 ≡ b = omega arith in
      s.at (a * 17 + b) (omega arith) ∙ rw (d, m);
}

-- after k steps
pub record Closing (cells : List Bool) (n : ℕ) (reached : List Bool) (k : ℕ) : Type 0 where
  pub top : k ≤ n
  pub now_at : Cells reached (reach (edge cells) k)

pub close_start : (cells : List Bool) (n : ℕ) → length cells ≡ 289 → Closing cells n cells 0
unfolding reach
close_start cells n e = record { top = omega arith; now_at = record { size = e; at = λ a b x y. refl } }

pub close_next : {cells reached next : List Bool} {n k : ℕ} → Closing cells n reached k → k < n → n ≤ 16 → Cells next (through (edge reached) (k + 1)) → Closing cells n next (k + 1)
unfolding reach through
close_next {cells} {reached} {next} {n} {k} s h g w =
    let e : k + 1 ≡ suc k = omega arith in
    record {
      top = omega arith;
      now_at = rw e (record {
        size = w.size;
        at = λ a b x y.
            rw e at (w.at a b x y)
            ∙ rw (s.now_at.at a b x y, s.now_at.at a (suc k) x (omega arith), s.now_at.at (suc k) b (omega arith) y);
      });
    }

pub close_done : {cells reached : List Bool} {n k : ℕ} → Closing cells n reached k → n ≤ k → Cells reached (reach (edge cells) n)
close_done s h = let e : _ ≡ _ = le s h in rw e at s.now_at
  where
    le : {cells reached : List Bool} {n k : ℕ} → Closing cells n reached k → n ≤ k → k ≡ n
    le s h = omega (arith, s.top)

-- ---- circles

-- task k + 1 lies on a circle, as the closed cells say it
unfoldable pub circle_at : List Bool → ℕ → Bool
circle_at reached k = edge reached (suc k) (suc k)

pub circle_here : (reached : List Bool) (k : ℕ) {r : Bool} → r ≡ edge reached (k + 1) (k + 1) → r ≡ circle_at reached k
unfolding circle_at
circle_here reached k e = let one : k + 1 ≡ suc k = omega arith in rw one at e

pub circle_first : (cells : List Bool) {reached : List Bool} {n x : ℕ} → Cells reached (reach (edge cells) n) → n ≤ 16 → x ≡ first (circle_at reached) n
    → x ≡ first (circular (edge cells) n) n
unfolding circle_at circular
circle_first cells {reached} {n} s h e =
    e ∙ first_cong (λ k. edge reached (suc k) (suc k)) (λ k. reach (edge cells) n (suc k) (suc k)) n (λ k b. s.at (suc k) (suc k) (omega arith) (omega arith))
