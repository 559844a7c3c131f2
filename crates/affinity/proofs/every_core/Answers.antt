use Rattle.affinity.proofs.PermittedLaws.{every_is}
use Rattle.affinity.proofs.every_core.Goals as goal

pub returns : goal.returns
returns c = every_is c.args.m c.min.ensures
