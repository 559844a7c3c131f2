-- The search looks for the first task that does not permit all cores.
use Prim.Native.Nat.{ℕ, zero, suc}
use mathlib.Core.Path.{◌≡◌, refl, ap, ◌∙◌}
use mathlib.Core.Bool.{not}
use lib.Dec.{eqb}
use lib.Seq.{get_or-take}
use native.Mathlib.Omega.{arith}
use borrow.Author.Rules.{rules}
use borrow.Author.Tests.{ne_eqb}
use Rattle.std.specs.Prelude.{is_some}
use Rattle.numbers.specs.First.{found}
use Rattle.products.specs.Products.{some_tied}
use Rattle.products.proofs.some_tied.Goals as goal

-- something is found exactly where the number is not 0
some_found : (t : ℕ) → is_some (found t) ≡ not (eqb t 0)
unfolding found
some_found zero = refl
some_found (suc k) = rw (ne_eqb (suc k) 0 (λ e. omega arith)) refl

pub returns : goal.returns
unfolding some_tied
returns c =
    c.is_some.ensures
    ∙ ap is_some (c.first.ensures _ (λ k x h e. rw (get_or-take c.args.n c.args.affinity k 0 h) (search rules)))
    ∙ some_found _
