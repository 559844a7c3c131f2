-- The tests of one slot, as their programs make them.
use Prim.Native.Nat.{ℕ, ◌+◌, ◌%◌, ◌≤◌, ◌<◌}
use mathlib.Core.Path.{◌≡◌, refl, sym, ap}
use mathlib.Core.Logic.{by_cases}
use mathlib.Core.Bool.{Bool, true, false, not, ◌&&◌, ◌||◌, or-true}
use native.Mathlib.Omega.{arith}
use native.Mathlib.Decide.{ℕ_discrete, dec_lt}
use native.Mathlib.Nat.{mod-eq_of_lt}
use lib.Dec.{eqb, ltb, leb}
use borrow.Author.Tests.{eq-eqb, ne_eqb, lt-ltb, le-ltb, le-leb, ltb-true}
use Rattle.edf.specs.declared.Slot.{Slot}
use Rattle.edf.specs.declared.Claim.{Claim}
use Rattle.edf.specs.Slots.{cannot_be}
use Rattle.slots.specs.SoFar.{late_so_far, choice_so_far}

-- The late task and the choice so far, by their tests.
module _ (late k : ℕ) (s : Slot) where
  pub late-new : (eqb late 0 && ltb 0 s.remaining) ≡ true → k ≡ late_so_far late k s
  late-new e = rw e

  pub late_kept : (eqb late 0 && ltb 0 s.remaining) ≡ false → late ≡ late_so_far late k s
  late_kept e = rw e

module _ (best : Claim) (k : ℕ) (s : Slot) where
  pub choice_new : 0 < s.remaining → (eqb best.task 0 || ltb s.until best.deadline) ≡ true
      → record { task = k; deadline = s.until } ≡ choice_so_far best k s
  choice_new h e = rw (lt-ltb 0 s.remaining h, e)

  pub choice_kept : 0 < s.remaining → (eqb best.task 0 || ltb s.until best.deadline) ≡ false → best ≡ choice_so_far best k s
  choice_kept h e = rw (lt-ltb 0 s.remaining h, e)

  pub choice_idle : s.remaining ≤ 0 → best ≡ choice_so_far best k s
  choice_idle h = rw (le-ltb 0 s.remaining h)

-- The test as its program makes it, with the budget's remainder by 65,536.
module _ (charge : ℕ) (s : Slot) where
  -- the remainder and the charge
  abbrev cost : ℕ
  cost = s.budget % 65536 + charge

  shorten : (x y z : Bool) → (y ≡ true → z ≡ true) → (x || y || z) ≡ (x || z)
  shorten true y z h = refl
  shorten false true z h = sym (h refl)
  shorten false false z h = refl

  -- a budget that is not its remainder is above the period, or the period is above 10,000
  ranges_by : (ltb 10000 s.period || eqb s.budget 0 || ltb s.period s.budget || ltb s.period cost || leb s.period s.until || ltb cost s.remaining)
      ≡ (ltb 10000 s.period || eqb s.budget 0 || ltb s.period (s.budget + charge) || leb s.period s.until || ltb (s.budget + charge) s.remaining)
  ranges_by =
      by_cases (dec_lt s.budget 65536)
      (λ h. let same : s.budget % 65536 ≡ s.budget = mod-eq_of_lt h in
      rw same
      (ap (λ x. x || leb s.period s.until || ltb (s.budget + charge) s.remaining)
      (shorten (ltb 10000 s.period || eqb s.budget 0) (ltb s.period s.budget) (ltb s.period (s.budget + charge))
      (λ t. lt-ltb s.period (s.budget + charge) (omega (arith, ltb-true s.period s.budget t))))))
      (λ h. by_cases (dec_lt 10000 s.period)
      (λ g. rw (lt-ltb 10000 s.period g))
      (λ g. rw (
        le-ltb 10000 s.period (omega arith),
        ne_eqb s.budget 0 (λ z. omega arith),
        lt-ltb s.period s.budget (omega arith),
        lt-ltb s.period (s.budget + charge) (omega arith),
      )))

  -- where the period is 0, the release is out of range
  pub cannot_be_by : ((not (eqb s.period 0) || not (eqb s.budget 0) || not (eqb s.until 0) || not (eqb s.remaining 0))
      && (ltb 10000 s.period || eqb s.budget 0 || ltb s.period s.budget || ltb s.period cost || leb s.period s.until || ltb cost s.remaining))
      ≡ cannot_be charge s
  cannot_be_by =
      by_cases (ℕ_discrete s.period 0)
      (λ z. rw (ranges_by, eq-eqb s.period 0 z, le-leb s.period s.until (omega arith), or-true)
      (empty_by (not (eqb s.budget 0) || not (eqb s.until 0) || not (eqb s.remaining 0))))
      (λ n. rw (ranges_by, ne_eqb s.period 0 n))
    where
      empty_by : (x : Bool) → (x && true) ≡ (x || false)
      empty_by true = refl
      empty_by false = refl
