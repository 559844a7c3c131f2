-- The demand is at most the hyperperiod, so that it may be taken from it first.
use Prim.Native.Nat.{ℕ, ◌+◌, ◌-◌, ◌≤◌}
use native.Mathlib.Decide.{dec_lt}
use native.Mathlib.Omega.{arith}
use mathlib.Core.Path.{◌≡◌, ◌∙◌, ap}
use mathlib.Core.Bool.{Bool, ◌&&◌}
use mathlib.Core.Logic.{dite}
use lib.Dec.{leb}
use borrow.Author.Tests.{le-leb, lt-leb}
use Rattle.affinity.specs.Permitted.{permitted}
use Rattle.branch.proofs.has_room.Goals as goal

taken_first : (load d h : ℕ) → d ≤ h → leb load (h - d) ≡ leb (load + d) h
taken_first load d h l =
    dite (dec_lt h (load + d))
    (λ x. rw (lt-leb load (h - d) (omega arith), lt-leb (load + d) h x))
    (λ x. rw (le-leb load (h - d) (omega arith), le-leb (load + d) h (omega arith)))

pub returns : goal.returns
returns c =
    let a = c.args in
    ap (λ (b : Bool). b && leb a.load (a.h - a.d)) c.permits.ensures
    ∙ ap (λ (b : Bool). permitted a.byte (a.below + 1) && b) (taken_first a.load a.d a.h c.requires.0)
