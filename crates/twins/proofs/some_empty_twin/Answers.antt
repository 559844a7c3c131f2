-- The loop's invariant: none of the first d loads is 0 with a twin's core.
use Prim.Native.Nat.{ℕ, zero, suc, ◌+◌, ◌*◌, ◌<◌}
use native.Mathlib.Decide.{ℕ_discrete}
use native.Mathlib.Numerals.{add-one}
use native.Mathlib.Omega.{arith}
use mathlib.Core.Path.{◌≡◌, refl, sym}
use mathlib.Core.Bool.{Bool, true, false, ◌&&◌, or-true}
use mathlib.Core.List.{List}
use mathlib.Core.Logic.{dite}
use lib.Dec.{eqb}
use lib.ListN.{get_or}
use Rattle.twins.specs.EmptyTwin.{some_zero_twin}
use Rattle.twins.proofs.some_empty_twin.Goals as goal

-- what is asked of load d
abbrev empty_twin : List ℕ → List Bool → ℕ → ℕ → Bool
empty_twin l rows c d = eqb (get_or l d 0) 0 && get_or rows (4 * c + d) false

module _ (l : List ℕ) (rows : List Bool) (c : ℕ) where
  none : some_zero_twin l rows c 0 ≡ false
  unfolding some_zero_twin
  none = refl

  found : (d k : ℕ) → d < k → empty_twin l rows c d ≡ true → some_zero_twin l rows c k ≡ true
  unfolding some_zero_twin
  found d zero h e = absurd (omega arith)
  found d (suc k) h e = dite (ℕ_discrete d k) (λ (q : d ≡ k). rw (← q, e)) (λ n. rw (found d k (omega arith) e, or-true))

  passed : (d : ℕ) → empty_twin l rows c d ≡ false → some_zero_twin l rows c d ≡ false → some_zero_twin l rows c (d + 1) ≡ false
  unfolding some_zero_twin
  passed d e f = rw (add-one d, e) f

pub loop-d-init : goal.loop-d-init
loop-d-init c = none _ _ _

pub returns-then-loads-d : goal.returns-then-loads-d
returns-then-loads-d c = sym (found _ _ _ c.loop-d.d _ c.loop-d-test.true c.if-loads-d.true)

pub loop-d-preserved : goal.loop-d-preserved
loop-d-preserved c = passed _ _ _ c.loop-d.d c.if-loads-d.false c.loop-d.invariant

pub returns : goal.returns
returns c =
    let e : c.loop-d.d ≡ c.args.k = omega arith in
    sym (rw e at c.loop-d.invariant)
