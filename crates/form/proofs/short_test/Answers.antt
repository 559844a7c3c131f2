-- The test is the definition.
use Rattle.form.proofs.short_test.Goals as goal

pub returns : goal.returns
returns c = c.refuse_if.ensures
