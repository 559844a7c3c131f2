-- Rows put into planning order and back by the list of the tasks.
use Prim.Native.Nat.{ℕ, zero, suc, ◌+◌, ◌≤◌, ◌<◌}
use mathlib.Core.Path.{◌≡◌, refl, sym, ◌∙◌, ap}
use mathlib.Core.List.{List, [], ◌∷◌}
use mathlib.Core.Logic.{◌≢◌}
use lib.ListN.{length, get_or, set, take, replicate, length-set}
use lib.Seq.{get_or-set_same, get_or-set_other, get_or-take}
use native.Mathlib.Omega.{arith}
use native.Mathlib.Decide.{ℕ_discrete, dec_lt}
use Rattle.numbers.specs.Rows.{tab, row, up_to, entry}
use Rattle.numbers.specs.Reorder.{gather, position, scatter}
use Rattle.numbers.proofs.RowLaws.{Filled, fill_start, fill_next, fill_done, row_ext, row_cong, row-each, up_to-below, up_to_above, up_to_next, get_or-row, get_or-row_above, get_or-tab, length-row, take_row}
use Rattle.numbers.proofs.SortingLaws.{permutation_below}
use Rattle.numbers.proofs.ReorderLaws.{order_long, gather_long, gather_cong, get_or-gather, get_or-scatter, position_of, position-entry}
use Rattle.numbers.proofs.ZeroLaws.{zero_at}
use Rattle.reorder.specs.Listed.{Listed, gathered}

module _ {order : List ℕ} {n : ℕ} (l : Listed order n) where
  -- the tasks in planning order
  abbrev tasks : List ℕ
  tasks = take n order

  tasks_long : length tasks ≡ n
  tasks_long = order_long n tasks l.each

  entry_is : (k : ℕ) → k < n → entry order k ≡ entry tasks k
  entry_is k h = sym (get_or-take n order k 0 h)

  pub listed_below : (k : ℕ) → k < n → entry order k < n
  listed_below k h = rw (entry_is k h) (permutation_below n tasks l.each k (rw tasks_long h))

  -- the front of the row is the gathered list
  pub gathered_front : (values : List ℕ) → take n (row 0 n (entry (gather tasks values))) ≡ gather tasks values
  gathered_front values = take_row n (gather tasks values) (gather_long n tasks l.each values) l.few

  -- of a row of sixteen it is that of the tasks' entries
  pub gathered_tasks : (f : ℕ → ℕ) → take n (row 0 n (entry (gather tasks (row 0 n f)))) ≡ gather tasks (tab n f)
  gathered_tasks f =
      gathered_front (row 0 n f)
      ∙ gather_cong n tasks l.each (row 0 n f) (tab n f) (λ t h. get_or-row 0 n f t h l.few ∙ sym (get_or-tab 0 n f t h))

  -- and of any row that of its first entries
  pub gathered_entries : (values : List ℕ) → take n (row 0 n (entry (gather tasks values))) ≡ gather tasks (tab n (entry values))
  gathered_entries values =
      gathered_front values ∙ gather_cong n tasks l.each values (tab n (entry values)) (λ t h. sym (get_or-tab 0 n (entry values) t h))

  -- what holds of each task's value and of 0 holds of each entry
  pub gathered_each : (P : ℕ → Type 0) (values : List ℕ) → P 0 → ((t : ℕ) → t < n → P (entry values t)) → (k : ℕ) → P (entry (row 0 n (entry (gather tasks values))) k)
  gathered_each P values o h =
      row-each 0 P n (entry (gather tasks values)) o
      (λ k b. let i : k < length tasks = rw tasks_long b in
      rw (get_or-gather tasks values k i) (h (entry tasks k) (permutation_below n tasks l.each k i)))

-- the kth value is that of the kth task
get_or-gathered : {A : Type 0} (z : A) (tasks : List ℕ) (values : List A) (k : ℕ) → k < length tasks → gathered z tasks values k ≡ get_or values (entry tasks k) z
get_or-gathered z [] values k h = absurd (omega arith)
get_or-gathered z (t ∷ tasks) values zero h = refl
get_or-gathered z (t ∷ tasks) values (suc k) h = get_or-gathered z tasks values k (omega arith)

-- an entry within a list, whatever is said of those past its end
within : {A : Type 0} (x z : A) (l : List A) (i : ℕ) → i < length l → get_or l i x ≡ get_or l i z
within x z [] i h = absurd (omega arith)
within x z (y ∷ l) zero h = refl
within x z (y ∷ l) (suc i) h = within x z l i (omega arith)

-- A loop that puts values into planning order: those of the first k tasks are there.
pub record Gathering {A : Type 0} (z : A) (order : List ℕ) (n : ℕ) (values row : List A) (k : ℕ) : Type 0 where
  pub listed : Listed order n
  pub fills : Filled z n (gathered z (take n order) values) row k

pub gather_start : {A : Type 0} (z : A) (order : List ℕ) (n : ℕ) (values : List A) → Listed order n → Gathering z order n values (replicate 16 z) 0
gather_start z order n values l = record { listed = l; fills = fill_start z n (gathered z (take n order) values) l.few }

module _ {A : Type 0} {z : A} {order : List ℕ} {n : ℕ} {values entries : List A} {k : ℕ} (s : Gathering z order n values entries k) where
  pub gather_next : (x : A) → k < n → length values ≡ 16 → Gathering z order n values (set entries k (get_or values (entry order k) x)) (k + 1)
  gather_next x h w =
      let l = s.listed in
      record {
        listed = l;
        fills =
            fill_next s.fills h
            (within x z values (entry order k) (omega (arith, listed_below l k h, l.few))
            ∙ ap (λ (t : ℕ). get_or values t z) (entry_is l k h)
            ∙ sym (get_or-gathered z (take n order) values k (rw (tasks_long l) h)));
      }

  pub gather_done : n ≤ k → entries ≡ row z n (gathered z (take n order) values)
  gather_done h = fill_done s.fills h

-- the choice of task t, once those of the first k tasks in planning order are written
unfoldable written : List ℕ → ℕ → List ℕ → ℕ → ℕ → ℕ
written order n choices k t = up_to 0 k (entry choices) (position (take n order) t)

-- A loop that puts choices back into table order: those of the first k tasks are written.
pub record Scattering (order : List ℕ) (n : ℕ) (choices placement : List ℕ) (k : ℕ) : Type 0 where
  pub listed : Listed order n
  pub top : k ≤ n
  is : placement ≡ row 0 n (written order n choices k)

pub scatter_start : (order : List ℕ) (n : ℕ) (choices : List ℕ) → Listed order n → Scattering order n choices (replicate 16 0) 0
unfolding written
scatter_start order n choices l =
    record { listed = l; top = omega arith; is = row_ext 0 n (written order n choices 0) (replicate 16 0) refl (λ t h. zero_at 16 t ∙ sym (at t (dec_lt t n))) }
  where
    at : (t : ℕ) → Dec (t < n) → up_to 0 n (written order n choices 0) t ≡ 0
    at t (yes h) = up_to-below 0 n (written order n choices 0) t h ∙ up_to_above 0 0 (entry choices) (position (take n order) t) (omega arith)
    at t (no h) = up_to_above 0 n (written order n choices 0) t (omega arith)

module _ {order : List ℕ} {n : ℕ} {choices placement : List ℕ} {k : ℕ} (s : Scattering order n choices placement k) where
  abbrev l : Listed order n
  l = s.listed

  -- the choices written before this turn, and after it
  abbrev was : ℕ → ℕ
  was = written order n choices k

  abbrev becomes : ℕ → ℕ
  becomes = written order n choices (k + 1)

  written_next : k < n → set (row 0 n was) (entry order k) (entry choices k) ≡ row 0 n becomes
  unfolding written
  written_next h =
      row_ext 0 n becomes (set (row 0 n was) (entry order k) (entry choices k))
      (length-set (row 0 n was) (entry order k) (entry choices k) ∙ length-row 0 n was)
      (λ t b. at t b (ℕ_discrete t (entry order k)) (dec_lt t n))
    where
      below : entry order k < n
      below = listed_below l k h

      place : position (take n order) (entry order k) ≡ k
      place = ap (position (take n order)) (entry_is l k h) ∙ position-entry n (take n order) l.each k (rw (tasks_long l) h)

      at : (t : ℕ) → t < 16 → Dec (t ≡ entry order k) → Dec (t < n)
          → get_or (set (row 0 n was) (entry order k) (entry choices k)) t 0 ≡ up_to 0 n becomes t
      at t b (yes e) x =
          rw e
          (get_or-set_same (row 0 n was) (entry order k) (entry choices k) 0 (rw length-row (omega (arith, below, l.few)))
          ∙ sym (up_to-below 0 n becomes (entry order k) below
          ∙ ap (up_to 0 (k + 1) (entry choices)) place
          ∙ up_to-below 0 (k + 1) (entry choices) k (omega arith)))
      at t b (no ne) (yes x) =
          let w = position_of n (take n order) l.each t x in
          let d : position (take n order) t ≢ k = λ e. ne (sym w.1 ∙ ap (entry (take n order)) e ∙ sym (entry_is l k h)) in
          get_or-set_other (row 0 n was) (entry order k) t (entry choices k) 0 ne
          ∙ get_or-row 0 n was t x l.few
          ∙ up_to_next 0 k (entry choices) (position (take n order) t) d
          ∙ sym (up_to-below 0 n becomes t x)
      at t b (no ne) (no x) =
          get_or-set_other (row 0 n was) (entry order k) t (entry choices k) 0 ne
          ∙ get_or-row_above 0 n was t (omega arith) b
          ∙ sym (up_to_above 0 n becomes t (omega arith))

  pub scatter_next : {r : List ℕ} → k < n → r ≡ set placement (entry order k) (entry choices k) → Scattering order n choices r (k + 1)
  scatter_next h e = record { listed = l; top = omega arith; is = rw (e, s.is) (written_next h) }

  pub scatter_done : n ≤ k → placement ≡ row 0 n (entry (scatter (take n order) choices))
  unfolding written
  scatter_done h = s.is ∙ row_cong 0 n was (entry (scatter (take n order) choices)) (λ t b. at t b)
    where
      at : (t : ℕ) → t < n → was t ≡ entry (scatter (take n order) choices) t
      at t b =
          up_to-below 0 k (entry choices) (position (take n order) t) (omega (arith, (position_of n (take n order) l.each t b).0, tasks_long l))
          ∙ sym (get_or-scatter n (take n order) l.each choices t b)
