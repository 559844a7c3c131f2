-- The pass over all slots.
use Rattle.sweep.proofs.SweepLaws.{pass_start}
use borrow.Author.Rules.{rules}
use Rattle.sweep.proofs.sweep.Goals as goal

pub pass-requires : goal.pass-requires
pass-requires c = (_, pass_start _ _ _ (search rules) c.requires)

pub returns : goal.returns
returns c = c.pass.ensures _ (pass_start _ _ _ (search rules) c.requires)
