-- The remainder and the charge fit, and the test is the definition's.
use Rattle.slots.proofs.SlotLaws.{cannot_be_by}
use Rattle.slots.proofs.cannot_be.Goals as goal

pub returns : goal.returns
returns c = cannot_be_by c.args.charge c.args.s
