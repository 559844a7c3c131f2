-- The test is the definition.
use Rattle.newform.proofs.first_test.Goals as goal

pub returns : goal.returns
returns c = rw (← c.byte.ensures) c.refuse_if.ensures
