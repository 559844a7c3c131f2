-- The tick of the record that the fresh core handed back.
use mathlib.Core.Path.{sym}
use lib.Seq.{length-take-le}
use borrow.Author.Rules.{rules}
use Rattle.snippets.proofs.ShownLaws.{plan_long, first-ticked}
use Rattle.snippets.proofs.first_tick.Goals as goal

pub slice_bounds-placement-end : goal.slice_bounds-placement-end
slice_bounds-placement-end c = rw (c.plan-plan.ensures.answer, plan_long _ _) c.requires

pub slice_bounds-fresh-end : goal.slice_bounds-fresh-end
slice_bounds-fresh-end c = sym (length-take-le _ _ (rw (c.plan-plan.ensures.answer, plan_long _ _) c.requires))

pub returns : goal.returns
returns c = search (rules, first-ticked)
