-- A loop over the entries of a row that changes one of them: how far it has come.
use Prim.Native.Nat.{ℕ, ◌+◌, ◌≤◌, ◌<◌, zero-le}
use native.Mathlib.Nat.{le_refl}
use native.Mathlib.Decide.{ℕ_discrete, dec_lt}
use native.Mathlib.Omega.{arith}
use mathlib.Core.Path.{◌≡◌, ◌∙◌}
use mathlib.Core.Bool.{cond}
use mathlib.Core.List.{List}
use mathlib.Core.Logic.{by_cases}
use lib.Dec.{eqb, ltb}
use lib.ListN.{get_or, set}
use lib.Seq.{set-get_or, get_or-set_other}
use borrow.Author.Tests.{lt-ltb, le-ltb, eq-eqb, ne_eqb}
use Rattle.numbers.proofs.BoolLaws.{cond_le}

-- entry c of the row l becomes f of itself and d, once the loop over n entries has come past it; it has come to entry k
pub record Changing (f : ℕ → ℕ → ℕ) (l : List ℕ) (c d n : ℕ) (row : List ℕ) (k : ℕ) : Type 0 where
  pub top : k ≤ n
  pub is : row ≡ cond (ltb c k) (set l c (f (get_or l c 0) d)) l

pub change_start : (f : ℕ → ℕ → ℕ) (l : List ℕ) (c d n : ℕ) → Changing f l c d n l 0
change_start f l c d n = record { top = omega arith; is = rw (le-ltb c 0 (omega arith)) }

module _ {f : ℕ → ℕ → ℕ} {l : List ℕ} {c d n : ℕ} {row : List ℕ} {k : ℕ} (s : Changing f l c d n row k) where
  -- entry k has not been changed yet
  entry-was : get_or row k 0 ≡ get_or l k 0
  entry-was =
      by_cases (dec_lt c k)
      (λ h. rw (s.is, lt-ltb c k h) (get_or-set_other l c k _ 0 (λ z. omega arith)))
      (λ h. rw (s.is, le-ltb c k (omega arith)))

  -- the entry is picked
  pub change_pick : {v : ℕ} → k < n → v ≡ cond (eqb c k) (f (get_or l c 0) d) (get_or row k 0)
      → Changing f l c d n (set row k v) (k + 1)
  change_pick {v} h e = record { top = omega arith; is = go (dec_lt c k) (ℕ_discrete c k) }
    where
      go : Dec (c < k) → Dec (c ≡ k) → set row k v ≡ cond (ltb c (k + 1)) (set l c (f (get_or l c 0) d)) l
      go (yes b) _ = rw (e, ne_eqb c k (λ z. omega arith), set-get_or, s.is, lt-ltb c k b, lt-ltb c (k + 1) (omega arith))
      go (no b) (yes q) = rw (e, eq-eqb c k q, s.is, le-ltb c k (omega arith), lt-ltb c (k + 1) (omega arith), q)
      go (no b) (no q) = rw (e, ne_eqb c k q, set-get_or, s.is, le-ltb c k (omega arith), le-ltb c (k + 1) (omega arith))

  pub change_done : c < n → n ≤ k → row ≡ set l c (f (get_or l c 0) d)
  change_done b h = s.is ∙ rw (lt-ltb c k (omega arith))

  -- what is added to the entry, or taken from it, is picked
  module _ {p : ℕ} (e : p ≡ cond (eqb c k) d 0) where
    pub change_by : ((y : ℕ) → f y 0 ≡ y) → k < n → Changing f l c d n (set row k (f (get_or row k 0) p)) (k + 1)
    change_by none h =
        by_cases (ℕ_discrete c k)
        (λ q. change_pick h (rw (e, eq-eqb c k q, entry-was, q)))
        (λ q. change_pick h (rw (e, ne_eqb c k q) (none (get_or row k 0))))

    pub room_more : get_or l k 0 + d < 4294967296 → get_or row k 0 + p < 4294967296
    room_more h = omega (arith, entry-was, cond_le (eqb c k) d d (le_refl d))

    pub room_less : d ≤ get_or l c 0 → p ≤ get_or row k 0
    room_less h =
        by_cases (ℕ_discrete c k)
        (λ q. rw (e, entry-was, eq-eqb c k q, ← q) h)
        (λ q. rw (e, ne_eqb c k q) zero-le)
