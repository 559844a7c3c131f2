-- Laws of marks, and the loop that places task after task.
use Prim.Native.Nat.{ℕ, zero, suc, ◌+◌, ◌≤◌, ◌<◌}
use mathlib.Core.Path.{◌≡◌, refl, sym, ◌∙◌, ap}
use mathlib.Core.Bool.{Bool, true, false, not, ◌&&◌, or-true, or-false}
use mathlib.Core.List.{List, [], ◌∷◌, ◌++◌}
use mathlib.Core.Logic.{by_cases}
use lib.Dec.{eqb}
use lib.ListN.{length, get_or, set, replicate, length-set, length-replicate, get_or-replicate}
use lib.Seq.{get_or-set_same, get_or-set_other}
use native.Mathlib.Decide.{ℕ_discrete}
use native.Mathlib.Omega.{arith}
use borrow.Author.Tests.{eq-eqb, ne_eqb}
use Rattle.std.specs.Prelude.{Option, is_some}
use Rattle.numbers.specs.First.{first, found}
use Rattle.numbers.specs.Rows.{padded}
use Rattle.numbers.proofs.FirstLaws.{first_is}
use Rattle.numbers.proofs.ZeroLaws.{padded_next}
use Rattle.precedence.specs.Sequence.{stands, holds_up, waits, is_ready, next_task, with_next, ordered}
use Rattle.precedence.proofs.ReadyLaws.{stands_last}
use Rattle.precedence.proofs.WidthLaws.{next_cong}
use Rattle.precedence.proofs.SequenceLaws.{ordered-length}
use Rattle.relation.specs.Cells.{edge}
use Rattle.sequencing.specs.Marks.{marked}

-- ---- what looks for a task

-- whether task k + 1 holds t up, as the search has it
pub holds_up_lem : (f : ℕ → ℕ → Bool) (placed : List Bool) (t k : ℕ) {a b : Bool} → a ≡ f (k + 1) t → b ≡ get_or placed (k + 1) false → (a && not b) ≡ holds_up f (marked placed) t k
unfolding holds_up
holds_up_lem f placed t k p q = let one : k + 1 ≡ suc k = omega arith in rw (p, q, one)

-- whether something is found, as `waits` says it
pub waits-found : (f : ℕ → ℕ → Bool) (n : ℕ) (placed : ℕ → Bool) (t : ℕ) {r : Bool} {o : Option ℕ} → r ≡ is_some o → o ≡ found (first (holds_up f placed t) n) → r ≡ waits f n placed t
unfolding waits found
waits-found f n placed t {r} {o} e g = go (first (holds_up f placed t) n) g
  where
    go : (k : ℕ) → o ≡ found k → r ≡ not (eqb k 0)
    go zero h = rw h at e
    go (suc k) h = rw h at e ∙ sym (ap not (ne_eqb (suc k) 0 (λ z. omega arith)))

-- no task is found beyond n
pub first_le : (p : ℕ → Bool) (n : ℕ) → first p n ≤ n
first_le p n = go (first p n) refl
  where
    go : (k : ℕ) → first p n ≡ k → first p n ≤ n
    go zero e = omega arith
    go (suc k) e = let b = (first_is p n k e).below in omega arith

-- whether task k + 1 is ready, as the search has it
pub ready-here : (f : ℕ → ℕ → Bool) (n : ℕ) (placed : List Bool) (k : ℕ) {a b : Bool} → a ≡ get_or placed (k + 1) false → b ≡ waits f n (marked placed) (k + 1)
    → (not a && not b) ≡ is_ready f n (marked placed) k
unfolding is_ready
ready-here f n placed k p q = let one : k + 1 ≡ suc k = omega arith in rw (p, q, one)

-- ---- the loop that places

-- The tasks of the list are marked, and no other.
pub record Marked (placed : List Bool) (l : List ℕ) : Type 0 where
  pub size : length placed ≡ 17
  pub at : (t : ℕ) → t < 17 → get_or placed t false ≡ stands l t

mark_start : Marked (replicate 17 false) []
unfolding stands
mark_start = record { size = length-replicate 17 false; at = λ t h. get_or-replicate 17 t false false h }

mark_next : {placed : List Bool} {l : List ℕ} (t : ℕ) → Marked placed l → t < 17 → Marked (set placed t true) (l ++ (t ∷ []))
mark_next {placed} {l} t m h = record {
  size = length-set placed t true ∙ m.size;
  at = λ u b.
      by_cases (ℕ_discrete u t)
      (λ e. rw (stands_last, e, get_or-set_same placed t true false (omega (arith, m.size)), eq-eqb t t refl, or-true))
      (λ d. rw (stands_last, ne_eqb t u (λ e. d (sym e))) (get_or-set_other placed t u true false d ∙ m.at u b ∙ sym (or-false _)));
}

-- The first i tasks of the order stand in the row and are marked.
pub record Placing (cells : List Bool) (n : ℕ) (order : List ℕ) (placed : List Bool) (i : ℕ) : Type 0 where
  pub top : i ≤ n
  pub row : order ≡ padded (ordered (edge cells) n i)
  pub marks : Marked placed (ordered (edge cells) n i)

pub place_start : (cells : List Bool) (n : ℕ) → Placing cells n (replicate 16 0) (replicate 17 false) 0
unfolding ordered
place_start cells n = record { top = omega arith; row = refl; marks = mark_start }

pub place_next : {cells : List Bool} {n : ℕ} {order : List ℕ} {placed : List Bool} {i t : ℕ} → Placing cells n order placed i → i < n → n ≤ 16
    → t ≡ next_task (edge cells) n (marked placed) → t < 17 → Placing cells n (set order i t) (set placed t true) (i + 1)
unfolding ordered with_next
place_next {cells} {n} {order} {placed} {i} {t} s h g e b =
    let one : i + 1 ≡ suc i = omega arith in
    let f : ℕ → ℕ → Bool = edge cells in
    let l : List ℕ = ordered f n i in
    let q : t ≡ next_task f n (stands l) = e ∙ next_cong f f 17 (λ a b x y. refl) n (omega arith) (marked placed) (stands l) s.marks.at in
    let long : length l ≡ i = ordered-length f n i in
    record {
      top = omega arith;
      row = rw (one, ← q) (ap (λ (x : List ℕ). set x i t) s.row ∙ ap (λ (k : ℕ). set (padded l) k t) (sym long) ∙ padded_next l t (omega (arith, long)));
      marks = rw (one, ← q) (mark_next t s.marks b);
    }

pub place_done : {cells : List Bool} {n : ℕ} {order : List ℕ} {placed : List Bool} {i : ℕ} → Placing cells n order placed i → n ≤ i → order ≡ padded (ordered (edge cells) n n)
place_done {n = n} {i = i} s h = let e : i ≡ n = omega (arith, s.top) in rw e at s.row
