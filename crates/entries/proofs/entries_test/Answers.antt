-- The first entry above the cores gives the place.
use borrow.Author.Rules.{rules}
use Rattle.refusal.specs.declared.Cause.TheVariants.{Placement}
use Rattle.entries.specs.Tests.{above_at}
use Rattle.entries.proofs.entries_test.Goals as goal

pub returns : goal.returns
unfolding above_at
returns c = c.refuse_at.ensures _ Placement (c.first.ensures (above_at c.args.placement.now c.args.f.m) (λ k x h e. search rules)) (λ x e. search rules)
