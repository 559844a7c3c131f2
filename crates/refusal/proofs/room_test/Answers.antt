-- The test is the definition.
use Rattle.refusal.proofs.room_test.Goals as goal

pub returns : goal.returns
returns c = c.refuse_if.ensures
