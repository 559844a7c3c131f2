-- None of the tasks that tell the two cores apart is found.
use Prim.Native.Nat.{ℕ, zero, suc, ◌+◌}
use mathlib.Core.Path.{◌≡◌, refl, sym, ◌∙◌, ap}
use native.Mathlib.Omega.{arith}
use mathlib.Core.Bool.{Bool, true, false, not}
use lib.Dec.{eqb}
use borrow.Author.Rules.{rules}
use borrow.Author.Tests.{ne_eqb}
use Rattle.std.specs.Option.{is_none}
use Rattle.numbers.specs.First.{found}
use Rattle.allocation.specs.Rule.{tells_apart, twins}
use Rattle.outset.proofs.are_twins.Goals as goal

none-found : (t : ℕ) → is_none (found t) ≡ eqb t 0
unfolding found
none-found zero = refl
none-found (suc k) = sym (ne_eqb (suc k) 0 (λ z. omega arith))

told : (r s : Bool) → s ≡ not r → r ≡ not s
told true s e = ap not (sym e)
told false s e = ap not (sym e)

pub returns : goal.returns
unfolding twins
returns c =
    let test = tells_apart c.args.affinity (c.args.c + 1) (c.args.d + 1) in
    told _ _ c.is_none.ensures ∙ ap is_none (c.first.ensures test (λ k x h e. search rules)) ∙ none-found _
