-- The load is held to the hyperperiod.
use Rattle.loads.proofs.LoadLaws.{load-tested}
use Rattle.loads.proofs.load_test.Goals as goal

pub returns : goal.returns
returns c = load-tested _ _ c.requires c.load_on-load.ensures c.refuse_if.ensures
