-- Laws of rows of sixteen, and the steps of a loop that fills one from the front.
use Prim.Native.Nat.{ℕ, zero, suc, ◌+◌, ◌≤◌, ◌<◌, min}
use mathlib.Core.Path.{◌≡◌, refl, sym, ◌∙◌, ap}
use mathlib.Core.List.{List}
use mathlib.Core.Logic.{◌⊎◌, inl, inr, ⊎_elim, by_cases}
use lib.ListN.{length, get_or, set, take, replicate, length-set, get_or-eq_default}
use lib.Seq.{ext_get_or, get_or-set_same, get_or-set_other, get_or-take, length-take-le, set_out}
use native.Mathlib.Nat.{le_refl}
use native.Mathlib.Omega.{arith}
use native.Mathlib.Decide.{ℕ_discrete, dec_lt}
use borrow.Author.Tests.{lt-ltb, le-ltb}
use Rattle.numbers.specs.Rows.{tab, up_to, row, entry}
use Rattle.numbers.proofs.BoundLaws.{not_less}

module _ {A : Type 0} (z : A) where
  pub length-tab : (w : ℕ) (f : ℕ → A) → length (tab w f) ≡ w
  unfolding tab
  length-tab zero f = refl
  length-tab (suc w) f = ap suc (length-tab w (λ k. f (suc k)))

  pub get_or-tab : (w : ℕ) (f : ℕ → A) (k : ℕ) → k < w → get_or (tab w f) k z ≡ f k
  unfolding tab
  get_or-tab zero f k h = absurd (omega arith)
  get_or-tab (suc w) f zero h = refl
  get_or-tab (suc w) f (suc k) h = get_or-tab w (λ j. f (suc j)) k (omega arith)

  -- lists of the same length with the same entries
  pub by_entries : {a b : List A} {n : ℕ} → length a ≡ n → length b ≡ n → ((k : ℕ) → k < n → get_or a k z ≡ get_or b k z) → a ≡ b
  by_entries {a} {b} p q h = ext_get_or z a b (p ∙ sym q) (λ k l. h k (omega arith))

  module _ (n : ℕ) (f : ℕ → A) where
    pub up_to-below : (k : ℕ) → k < n → up_to z n f k ≡ f k
    unfolding up_to
    up_to-below k h = rw (lt-ltb k n h)

    pub up_to_above : (k : ℕ) → n ≤ k → up_to z n f k ≡ z
    unfolding up_to
    up_to_above k h = rw (le-ltb k n h)

    pub length-row : length (row z n f) ≡ 16
    unfolding row
    length-row = length-tab 16 (up_to z n f)

    pub get_or-row : (k : ℕ) → k < n → n ≤ 16 → get_or (row z n f) k z ≡ f k
    unfolding row
    get_or-row k h g = get_or-tab 16 (up_to z n f) k (omega arith) ∙ up_to-below k h

    pub get_or-row_above : (k : ℕ) → n ≤ k → k < 16 → get_or (row z n f) k z ≡ z
    unfolding row
    get_or-row_above k h g = get_or-tab 16 (up_to z n f) k g ∙ up_to_above k h

    -- each entry is z, or that of f below n
    row-entry : (k : ℕ) → (get_or (row z n f) k z ≡ z) ⊎ ((k < n) × (get_or (row z n f) k z ≡ f k))
    unfolding row
    row-entry k =
        by_cases (dec_lt k 16)
        (λ b. by_cases (dec_lt k n)
        (λ h. inr (h, get_or-tab 16 (up_to z n f) k b ∙ up_to-below k h))
        (λ h. inl (get_or-row_above k (omega arith) b)))
        (λ b. inl (get_or-eq_default (row z n f) z (rw length-row (omega arith))))

    pub row_beyond : (k : ℕ) → n ≤ k → get_or (row z n f) k z ≡ z
    row_beyond k h = ⊎_elim (λ e. e) (λ r. absurd (omega arith)) (row-entry k)

    -- sixteen entries that are f k below n and z from there on are the row
    pub row_ext : (l : List A) → length l ≡ 16 → ((k : ℕ) → k < 16 → get_or l k z ≡ up_to z n f k) → l ≡ row z n f
    unfolding row
    row_ext l e h = by_entries e length-row (λ k b. h k b ∙ sym (get_or-tab 16 (up_to z n f) k b))

  -- what holds of f below n and of z holds of every entry
  pub row-each : (P : A → Type 0) (n : ℕ) (f : ℕ → A) → P z → ((k : ℕ) → k < n → P (f k)) → (k : ℕ) → P (get_or (row z n f) k z)
  row-each P n f o h k = ⊎_elim (λ e. rw e o) (λ r. rw r.1 (h k r.0)) (row-entry n f k)

  -- one entry more changes no other
  pub up_to_next : (n : ℕ) (f : ℕ → A) (k : ℕ) → (k ≡ n → ⊥) → up_to z n f k ≡ up_to z (n + 1) f k
  up_to_next n f k ne =
      by_cases (dec_lt k n)
      (λ h. up_to-below n f k h ∙ sym (up_to-below (n + 1) f k (omega arith)))
      (λ h. up_to_above n f k (omega arith) ∙ sym (up_to_above (n + 1) f k (omega arith)))

  row_next : (n : ℕ) (f : ℕ → A) → n < 16 → set (row z n f) n (f n) ≡ row z (n + 1) f
  unfolding row
  row_next n f h =
      row_ext (n + 1) f (set (row z n f) n (f n)) (length-set (row z n f) n (f n) ∙ length-row n f)
      (λ k b. by_cases (ℕ_discrete k n)
      (λ e. rw e (get_or-set_same (row z n f) n (f n) z (rw length-row h) ∙ sym (up_to-below (n + 1) f n (omega arith))))
      (λ d. get_or-set_other (row z n f) n k (f n) z d ∙ get_or-tab 16 (up_to z n f) k b ∙ up_to_next n f k d))

  -- a row depends on f below n alone
  pub row_cong : (n : ℕ) (f g : ℕ → A) → ((k : ℕ) → k < n → f k ≡ g k) → row z n f ≡ row z n g
  unfolding row up_to
  row_cong n f g h =
      row_ext n g (row z n f) (length-row n f)
      (λ k b. get_or-tab 16 (up_to z n f) k b
      ∙ by_cases (dec_lt k n) (λ l. rw (lt-ltb k n l) (h k l)) (λ l. rw (le-ltb k n (omega arith))))

-- a row of a row's entries is that row
pub row_again : (n : ℕ) (g : ℕ → ℕ) → n ≤ 16 → row 0 n (entry (row 0 n g)) ≡ row 0 n g
row_again n g few = row_cong 0 n (entry (row 0 n g)) g (λ k h. get_or-row 0 n g k h few)

-- the front of a row is the list of its entries
pub take-row_tab : (n : ℕ) (f : ℕ → ℕ) → n ≤ 16 → take n (row 0 n f) ≡ tab n f
take-row_tab n f few =
    by_entries 0 (length-take-le n (row 0 n f) (rw (length-row 0 n f) few)) (length-tab 0 n f)
    (λ k b. get_or-take n (row 0 n f) k 0 b ∙ get_or-row 0 n f k b few ∙ sym (get_or-tab 0 n f k b))

-- or that from which it was made
pub take_row : (n : ℕ) (l : List ℕ) → length l ≡ n → n ≤ 16 → take n (row 0 n (entry l)) ≡ l
take_row n l e few =
    take-row_tab n (entry l) few ∙ by_entries 0 (length-tab 0 n (entry l)) e (get_or-tab 0 n (entry l))

-- an index past the end changes nothing
pub set_past : {A : Type 0} (l : List A) (k : ℕ) (x : A) → length l ≡ 16 → 16 ≤ k → l ≡ set l k x
set_past l k x e h = sym (set_out l k x (rw e h))

-- A loop that fills a row from the front: the first k of n entries are there.
pub record Filled {A : Type 0} (z : A) (n : ℕ) (f : ℕ → A) (l : List A) (k : ℕ) : Type 0 where
  pub top : k ≤ n
  pub few : n ≤ 16
  pub is : l ≡ row z k f

pub fill_start : {A : Type 0} (z : A) (n : ℕ) (f : ℕ → A) → n ≤ 16 → Filled z n f (replicate 16 z) 0
unfolding row tab up_to
fill_start z n f h = record { top = omega arith; few = h; is = refl }

module _ {A : Type 0} {z : A} {n : ℕ} {f : ℕ → A} {l : List A} {k : ℕ} where
  pub fill_next : {v : A} → Filled z n f l k → k < n → v ≡ f k → Filled z n f (set l k v) (k + 1)
  fill_next s h e = record {
    top = omega arith;
    few = s.few;
    is = rw (s.is, e) (row_next z k f (omega (arith, s.few)));
  }

  -- the same, where a call returns the row with one entry changed
  pub fill_with : {r : List A} {v : A} → Filled z n f l k → k < n → r ≡ set l k v → v ≡ f k → Filled z n f r (k + 1)
  fill_with s h e q = rw e (fill_next s h q)

  pub fill_done : Filled z n f l k → n ≤ k → l ≡ row z n f
  fill_done s h = let e : k ≡ n = omega (arith, s.top) in rw e at s.is

module _ {A : Type 0} (z : A) (n : ℕ) (f : ℕ → A) {l : List A} where
  -- a row has sixteen entries, however large n is
  row_most : l ≡ row z (min n 16) f → l ≡ row z n f
  unfolding row
  row_most e =
      row_ext z n f l (ap length e ∙ length-row z (min n 16) f)
      (λ k b. ap (λ (x : List A). get_or x k z) e ∙ get_or-tab z 16 (up_to z (min n 16) f) k b
      ∙ by_cases (dec_lt k n)
      (λ h. up_to-below z (min n 16) f k (omega arith) ∙ sym (up_to-below z n f k h))
      (λ h. up_to_above z (min n 16) f k (omega arith) ∙ sym (up_to_above z n f k (omega arith))))

  -- the loop that fills at most sixteen of n entries
  pub filled_most : {count k : ℕ} → Filled z count f l k → count ≡ min n 16 → count ≤ k → l ≡ row z n f
  filled_most s e h = row_most (fill_done s h ∙ ap (λ (x : ℕ). row z x f) e)

pub fill_most : (n : ℕ) {f : ℕ → ℕ} {count : ℕ} {l : List ℕ} {k : ℕ} → Filled 0 count f l k → count ≡ min n 16 → count ≤ k → l ≡ row 0 n f
fill_most n {f} = filled_most 0 n f

-- as many entries as there are that are not 0
pub entries_there : (n : ℕ) (xs : List ℕ) → ((k : ℕ) → k < n → 1 ≤ get_or xs k 0) → n ≤ length xs
entries_there n xs h =
    not_less (length xs) n (λ g. omega (arith, h (length xs) g, get_or-eq_default xs 0 (le_refl (length xs))))
