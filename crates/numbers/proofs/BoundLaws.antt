-- Tests of bounds say exactly what their statements say, and what it is that a statement fails.
use Prim.Native.Nat.{ℕ, ◌≤◌, ◌<◌}
use mathlib.Core.Path.{◌≡◌}
use mathlib.Core.Bool.{true, not, or-true}
use mathlib.Core.Logic.Dec
use mathlib.Core.Logic.{inl, inr, ◌↔◌, ⊎_map}
use lib.Dec.{ltb, eqb}
use native.Mathlib.Decide.{ℕ_discrete}
use native.Mathlib.Omega.{arith}
use borrow.Author.Tests.{ltb-true, lt-ltb, eqb-false, ne_eqb, not-true}
use Rattle.numbers.specs.Bounds.{outside, Outside}
use Rattle.numbers.proofs.BoolLaws.{or_cases}

-- outside a range
outside_is : (lo hi x : ℕ) → Outside lo hi x → outside lo hi x ≡ true
outside_is lo hi x (inl p) = rw (lt-ltb x lo p)
outside_is lo hi x (inr p) = rw (lt-ltb hi x p, or-true)

pub outside_exactly : (lo hi x : ℕ) → (outside lo hi x ≡ true) ↔ Outside lo hi x
outside_exactly lo hi x = (λ e. ⊎_map (ltb-true x lo) (ltb-true hi x) (or_cases (ltb x lo) (ltb hi x) e), outside_is lo hi x)

pub not_outside : (lo hi x : ℕ) → (Outside lo hi x → ⊥) ↔ ((lo ≤ x) × (x ≤ hi))
not_outside lo hi x = (
  λ n. let a : ¬ (x < lo) = λ h. n (inl h) in let b : ¬ (hi < x) = λ h. n (inr h) in (omega arith, omega arith),
  λ h o. elim o [ inl p ↦ omega arith | inr p ↦ omega arith ],
)

-- less
pub less_exactly : (a b : ℕ) → (ltb a b ≡ true) ↔ (a < b)
less_exactly a b = (ltb-true a b, lt-ltb a b)

pub not_less : (a b : ℕ) → (a < b → ⊥) → b ≤ a
not_less a b n = let m : ¬ (a < b) = n in omega arith

-- not equal
pub unequal_exactly : (a b : ℕ) → (not (eqb a b) ≡ true) ↔ (a ≡ b → ⊥)
unequal_exactly a b = (λ e. eqb-false a b (not-true _ e), λ n. rw (ne_eqb a b n))

pub not_unequal : (a b : ℕ) → ((a ≡ b → ⊥) → ⊥) → a ≡ b
not_unequal a b n = (Dec.not-not (ℕ_discrete a b)).0 n
