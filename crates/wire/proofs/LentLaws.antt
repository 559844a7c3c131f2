-- Bytes put into a lent output: where they stand, one piece after another, and the steps of a loop that puts one after another.
use Prim.Native.Nat.{ℕ, ◌+◌, ◌*◌, ◌≤◌, ◌<◌}
use mathlib.Core.Path.{◌≡◌, refl, sym, ◌∙◌, ap}
use mathlib.Core.List.{List, [], ◌∷◌, ◌++◌, append_assoc}
use lib.ListN.{length, get_or, take, drop, set, length-append}
use lib.Seq.{sets-eq, length-sets, length-take-le, take_at, drop_at, drop-drop, take-suc}
use native.Mathlib.Nat.{add_assoc, mul-add, mul-one, mul-le-mul_left}
use native.Mathlib.Numerals.{add-one, add-two, add-three}
use native.Mathlib.Omega.{arith}
use borrow.Rule.Slice.PartMut.{put_mid}
use Rattle.wire.specs.Bytes.{bytes_of, bytes_of_all, over}
use Rattle.wire.proofs.ReadBackLaws.{length-bytes}

-- straight-line stores
pub over-two : (l : List ℕ) (i a b : ℕ) → i + 2 ≤ length l → set (set l i a) (i + 1) b ≡ over l i (a ∷ b ∷ [])
unfolding over
over-two l i a b h = rw (add-one i) (sets-eq (a ∷ b ∷ []) l i h)

pub over_four : (l : List ℕ) (i a b c d : ℕ) → i + 4 ≤ length l
    → set (set (set (set l i a) (i + 1) b) (i + 2) c) (i + 3) d ≡ over l i (a ∷ b ∷ c ∷ d ∷ [])
unfolding over
over_four l i a b c d h = rw (add-one i, add-two i, add-three i) (sets-eq (a ∷ b ∷ c ∷ d ∷ []) l i h)

pub over_none : (l : List ℕ) (i : ℕ) → i ≤ length l → l ≡ over l i []
unfolding over
over_none l i h = sets-eq [] l i (omega arith)

-- the output keeps its length
pub length_over : (l : List ℕ) (i : ℕ) (vs : List ℕ) → i + length vs ≤ length l → length (over l i vs) ≡ length l
unfolding over
length_over l i vs h = ap length (sym (sets-eq vs l i h)) ∙ length-sets l i vs

-- a part of the output that other bytes were copied into, as many as it has
pub over_part : (l : List ℕ) (at k : ℕ) {ys vs : List ℕ} → ys ≡ vs → k ≡ length vs → put_mid at k l ys ≡ over l at vs
unfolding over
over_part l at k {vs = vs} e w = rw (e, w, drop-drop (length vs) at l) (sym (append_assoc (take at l) vs (drop (at + length vs) l)))

-- from the front: the bytes, then what stood behind them
pub over-front : (l vs : List ℕ) → over l 0 vs ≡ vs ++ drop (length vs) l
unfolding over
over-front l vs = let e : 0 + length vs ≡ length vs = omega arith in rw e

-- a piece behind another is one longer piece
pub over-over : (l : List ℕ) (i : ℕ) (us vs : List ℕ) → i + length us ≤ length l → over (over l i us) (i + length us) vs ≡ over l i (us ++ vs)
unfolding over
over-over l i us vs fits =
    let head : length (take i l ++ us) ≡ i + length us = length-append (take i l) us ∙ ap (λ k. k + length us) (length-take-le i l (omega arith)) in
    let t : take (i + length us) (over l i us) ≡ take i l ++ us = take_at (take i l ++ us) (drop (i + length us) l) (i + length us) head in
    let d : drop (i + length us + length vs) (over l i us) ≡ drop (i + length us + length vs) l =
    sym (drop-drop (length vs) (i + length us) (over l i us))
    ∙ ap (drop (length vs)) (drop_at (take i l ++ us) (drop (i + length us) l) (i + length us) head)
    ∙ drop-drop (length vs) (i + length us) l in
    rw (t, d, length-append us vs, ← add_assoc i (length us) (length vs), append_assoc (take i l) us vs)

-- one piece more, at the place that is named by its index
pub over_next : (l : List ℕ) {o r : List ℕ} (i j : ℕ) (us vs : List ℕ) → o ≡ over l i us → r ≡ over o j vs → j ≡ i + length us → i + length us ≤ length l → r ≡ over l i (us ++ vs)
over_next l i j us vs e q w h = q ∙ rw (e, w) (over-over l i us vs h)

-- A loop that puts n pieces of w bytes each from `at` on: after k turns `there k` stands there.
pub record Put (l : List ℕ) (at n w : ℕ) (there : ℕ → List ℕ) (o : List ℕ) (k : ℕ) : Type 0 where
  pub top : k ≤ n
  pub fits : at + w * n ≤ length l
  pub size : length o ≡ length l
  pub is : o ≡ over l at (there k)

pub put_start : (l : List ℕ) (at n w : ℕ) (there : ℕ → List ℕ) → at + w * n ≤ length l → there 0 ≡ [] → Put l at n w there l 0
put_start l at n w there h e = record { top = omega arith; fits = h; size = refl; is = rw e (over_none l at (omega arith)) }

module _ {l : List ℕ} {at n w : ℕ} {there : ℕ → List ℕ} {o : List ℕ} {k : ℕ} where
  pub put_next : {r : List ℕ} (vs : List ℕ) → Put l at n w there o k → k < n → length (there k) ≡ w * k → length vs ≡ w
      → there (k + 1) ≡ there k ++ vs → r ≡ over o (at + w * k) vs → Put l at n w there r (k + 1)
  put_next vs s h long each more e =
      let up_to : w * (k + 1) ≤ w * n = mul-le-mul_left w (omega arith) in
      let room : at + w * k + w ≤ length l = omega (arith, s.fits, mul-add w k 1, mul-one w) in
      record {
        top = omega arith;
        fits = s.fits;
        size = rw e (length_over o (at + w * k) vs (rw (each, s.size) room)) ∙ s.size;
        is = rw more (over_next l at (at + w * k) (there k) vs s.is e (rw long) (rw long (omega arith)));
      }

-- The bytes of a row of numbers.
bytes-append : (xs ys : List ℕ) → bytes_of_all (xs ++ ys) ≡ bytes_of_all xs ++ bytes_of_all ys
bytes-append [] ys = refl
bytes-append (x ∷ xs) ys = ap (λ l. bytes_of x ++ l) (bytes-append xs ys)

-- The steps of `put_words` (`packing`): after k turns the first k entries of the row are there.
module _ (row : List ℕ) (k : ℕ) (h : k < length row) where
  front_next : take (k + 1) row ≡ take k row ++ get_or row k 0 ∷ []
  front_next = rw add-one (take-suc row k 0 h)

  front_long : length (take k row) ≡ k
  front_long = length-take-le k row (omega arith)

  module _ {l : List ℕ} {at n : ℕ} {o r : List ℕ} where
    pub words_next : Put l at n 4 (λ j. bytes_of_all (take j row)) o k → k < n → r ≡ over o (at + 4 * k) (bytes_of (get_or row k 0))
        → Put l at n 4 (λ j. bytes_of_all (take j row)) r (k + 1)
    words_next s g e =
        put_next (bytes_of (get_or row k 0)) s g (length-bytes (take k row) ∙ rw front_long) refl
        (rw front_next (bytes-append (take k row) (get_or row k 0 ∷ []))) e

-- the front of a row, from the front of an output
pub front_put : (l row : List ℕ) (n : ℕ) {r : List ℕ} → n ≤ length row → r ≡ over l 0 (take n row) → r ≡ take n row ++ drop n l
front_put l row n h e = e ∙ over-front l (take n row) ∙ rw (length-take-le n row h)
