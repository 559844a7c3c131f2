-- The test is the definition.
use Rattle.transfer.specs.Tables.{other_byte}
use Rattle.transfer.proofs.is_other_byte.Goals as goal

pub returns : goal.returns
unfolding other_byte
returns c = rw c.every_core.ensures
