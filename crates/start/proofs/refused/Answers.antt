-- The record of zeros.
use Rattle.start.specs.Starts.{refused_start}
use Rattle.start.proofs.refused.Goals as goal

pub returns : goal.returns
unfolding refused_start
returns c = rw c.empty.ensures
