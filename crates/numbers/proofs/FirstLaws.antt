-- Laws of the first index at which a test holds, and the steps of a loop that looks for it.
use Prim.Native.Nat.{ℕ, zero, suc, ◌+◌, ◌-◌, ◌≤◌, ◌<◌}
use Rattle.std.specs.Prelude.{Option, Some, None, unwrap_or}
use Rattle.std.specs.Option.{is_some}
use native.Mathlib.Numerals.{add-one}
use mathlib.Core.Path.{◌≡◌, refl, sym, ◌∙◌, ap}
use mathlib.Core.Bool.{Bool, true, false, cond, not, ◌&&◌, true≢false}
use mathlib.Core.Logic.{◌≢◌, ⊎_elim, by_cases}
use lib.Dec.{eqb}
use native.Mathlib.Decide.{dec_lt}
use borrow.Author.Tests.{not-true, not-false, eq-eqb, ne_eqb}
use native.Mathlib.Omega.{arith}
use Rattle.numbers.specs.First.{first_from, first, found, IsFirst}
use Rattle.numbers.proofs.BoolLaws.{true_or_false, and_left, and_right}
use Rattle.numbers.proofs.BoundLaws.{not_unequal}

-- what is left of the search at i
unfoldable rest : (ℕ → Bool) → ℕ → ℕ → ℕ
rest p n i = first_from p i (n - i)

-- A loop over i from 0 to n that looks for the first index at which p holds: it is among those from i on.
pub record Seeking (p : ℕ → Bool) (n i : ℕ) : Type 0 where
  pub top : i ≤ n
  left : first p n ≡ rest p n i

pub seek_start : (p : ℕ → Bool) (n : ℕ) → Seeking p n 0
unfolding first rest
seek_start p n = record { top = omega arith; left = ap (first_from p 0) (omega arith) }

module _ {p : ℕ → Bool} {n i : ℕ} where
  seek_next : Seeking p n i → i < n → first p n ≡ cond (p i) (i + 1) (rest p n (i + 1))
  unfolding rest first_from
  seek_next s h = let q : n - i ≡ suc (n - (i + 1)) = omega arith in rw q at s.left

  -- the test's result as a caller has it
  pub looked_on : {r : Bool} → Seeking p n i → i < n → r ≡ p i → r ≡ false → Seeking p n (i + 1)
  looked_on s h e f = record { top = omega arith; left = seek_next s h ∙ rw (← e, f) }

  pub looked_found : {r : Bool} → Seeking p n i → i < n → r ≡ p i → r ≡ true → i + 1 ≡ first p n
  looked_found s h e f = sym (seek_next s h ∙ rw (← e, f))

  -- the number of what is found, as a search hands it back
  pub looked_up : {r : Bool} → Seeking p n i → i < n → r ≡ p i → r ≡ true → Some (i + 1) ≡ found (first p n)
  unfolding found
  looked_up s h e f = rw (← looked_found s h e f, add-one i) refl

  pub seek_none : Seeking p n i → n ≤ i → 0 ≡ first p n
  unfolding rest first_from
  seek_none s h = let q : n - i ≡ 0 = omega arith in sym (rw q at s.left)

-- none is found where the search ends
pub none_found : {p : ℕ → Bool} {n i : ℕ} → Seeking p n i → n ≤ i → None ≡ found (first p n)
unfolding found
none_found s h = rw (← seek_none s h) refl

-- the number of what a search hands back, or 0
pub number_found : (k : ℕ) {x : ℕ} {r : Option ℕ} → x ≡ unwrap_or r 0 → r ≡ found k → x ≡ k
unfolding found
number_found zero e f = e ∙ ap (λ r. unwrap_or r 0) f
number_found (suc k) e f = e ∙ ap (λ r. unwrap_or r 0) f

-- whether a search finds one
pub some_found : (k : ℕ) {b : Bool} {r : Option ℕ} → b ≡ is_some r → r ≡ found k → b ≡ not (eqb k 0)
unfolding found
some_found zero e f = e ∙ ap (λ r. is_some r) f
some_found (suc k) e f = e ∙ ap (λ r. is_some r) f ∙ sym (rw (ne_eqb (suc k) 0 (λ z. omega arith)) refl)

-- The test holds at what is found,
from_holds : (p : ℕ → Bool) (i m k : ℕ) → first_from p i m ≡ suc k → (k < i + m) × (p k ≡ true)
unfolding first_from
from_holds p i zero k e = absurd (let z : 0 ≡ suc k = e in omega arith)
from_holds p i (suc m) k e =
    ⊎_elim
    (λ q. let z : i + 1 ≡ suc k = rw q at e in let d : i ≡ k = omega arith in (omega arith, rw d at q))
    (λ q. let r = from_holds p (i + 1) m k (rw q at e) in (omega arith, r.1))
    (true_or_false (p i))

-- and wherever it holds, something is found that comes no later.
from_least : (p : ℕ → Bool) (i m k : ℕ) → p k ≡ true → i ≤ k → k < i + m → (0 < first_from p i m) × (first_from p i m ≤ suc k)
unfolding first_from
from_least p i zero k t h g = absurd (omega arith)
from_least p i (suc m) k t h g =
    ⊎_elim
    (λ q. rw q (omega arith, omega arith))
    (λ q. let ne : i ≢ k = λ d. true≢false (sym t ∙ rw (← d) q) in
    rw q (from_least p (i + 1) m k t (omega arith) (omega arith)))
    (true_or_false (p i))

-- equal tests find the same
from_cong : (p q : ℕ → Bool) (i k : ℕ) → ((j : ℕ) → j < i + k → p j ≡ q j) → first_from p i k ≡ first_from q i k
unfolding first_from
from_cong p q i zero h = refl
from_cong p q i (suc k) h = rw (h i (omega arith), from_cong p q (i + 1) k (λ j l. h j (omega arith)))

pub first_cong : (p q : ℕ → Bool) (n : ℕ) → ((j : ℕ) → j < n → p j ≡ q j) → first p n ≡ first q n
unfolding first
first_cong p q n h = from_cong p q 0 n (λ j l. h j (omega arith))

-- there is one first index at most
pub is_first_unique : {P : ℕ → Type 0} {n j k : ℕ} → IsFirst P n j → IsFirst P n k → j ≡ k
is_first_unique {j = j} {k} a b =
    let f : ¬ (j < k) = λ h. b.none j h a.here in
    let g : ¬ (k < j) = λ h. a.none k h b.here in
    omega arith

-- an index at which a test holds
abbrev pub Holds : (ℕ → Bool) → ℕ → Type 0
Holds p k = p k ≡ true

module _ (p : ℕ → Bool) (n : ℕ) where
  first_least : (k : ℕ) → k < n → p k ≡ true → (0 < first p n) × (first p n ≤ suc k)
  unfolding first
  first_least k h t = from_least p 0 n k t (omega arith) (omega arith)

  -- Where `first` is 0, the test holds at no index below n.
  pub first_zero : first p n ≡ 0 → (k : ℕ) → k < n → p k ≡ false
  first_zero e k h = ⊎_elim (λ t. absurd (omega (arith, first_least k h t))) (λ f. f) (true_or_false (p k))

  -- Where it is k + 1, k is the first.
  pub first_is : (k : ℕ) → first p n ≡ suc k → IsFirst (Holds p) n k
  unfolding first
  first_is k e =
      let r = from_holds p 0 n k e in
      record { below = omega arith; here = r.1; none = λ j h t. omega (arith, first_least j (omega arith) t) }

  -- The other way round.
  pub first_clear : ((k : ℕ) → k < n → p k ≡ false) → first p n ≡ 0
  first_clear h = not_unequal (first p n) 0
      (λ e. let i = first_is (first p n - 1) (omega arith) in true≢false (sym i.here ∙ h _ i.below))

  pub first_unique : (k : ℕ) → IsFirst (Holds p) n k → first p n ≡ suc k
  first_unique k i =
      let l = first_least k i.below i.here in
      let r = first_is (first p n - 1) (omega arith) in
      omega (arith, is_first_unique r i)

-- a test and the statement that it decides below n
pub is_first_map : {P Q : ℕ → Type 0} {n k : ℕ} → ((j : ℕ) → j < n → P j → Q j) → ((j : ℕ) → j < n → Q j → P j) → IsFirst P n k → IsFirst Q n k
is_first_map f g i = record { below = i.below; here = f _ i.below i.here; none = λ j h q. i.none j h (g j (omega (arith, h, i.below)) q) }

-- A loop over i from 0 to n that asks whether the test holds nowhere: it holds nowhere before i, or it does somewhere.
pub record Clearing (p : ℕ → Bool) (n i : ℕ) (good : Bool) : Type 0 where
  pub top : i ≤ n
  clear : good ≡ true → (k : ℕ) → k < i → p k ≡ false
  found : good ≡ false → (k : ℕ) × (k < n) × (p k ≡ true)

pub clear_start : (p : ℕ → Bool) (n : ℕ) → Clearing p n 0 true
clear_start p n = record { top = omega arith; clear = λ e k h. absurd (omega arith); found = λ e. absurd (true≢false e) }

module _ {p : ℕ → Bool} {n i : ℕ} {good : Bool} (s : Clearing p n i good) where
  pub clear_next : {r next : Bool} → i < n → r ≡ p i → next ≡ (good && not r) → Clearing p n (i + 1) next
  clear_next {r} {next} h e q = record {
    top = omega arith;
    clear = λ t k b.
        let both : (good && not r) ≡ true = sym q ∙ t in
        by_cases (dec_lt k i)
        (λ l. s.clear (and_left good (not r) both) k l)
        (λ l. let d : k ≡ i = omega arith in rw d (sym e ∙ not-true r (and_right good (not r) both)));
    found = λ f.
        ⊎_elim
        (λ t. (i, h, sym e ∙ not-false r (rw t at (sym q ∙ f))))
        (λ g. s.found g)
        (true_or_false good);
  }

  pub clear_done : n ≤ i → good ≡ eqb (first p n) 0
  clear_done h =
      ⊎_elim
      (λ t. t ∙ sym (eq-eqb (first p n) 0 (first_clear p n (λ k b. s.clear t k (omega arith)))))
      (λ f. let x = s.found f in f ∙ sym (ne_eqb (first p n) 0 (λ z. true≢false (sym x.2 ∙ first_zero p n z x.0 x.1))))
      (true_or_false good)
