-- Within the limits the multiple is the hyperperiod.
use Rattle.std.specs.Prelude.{Ok}
use Rattle.taskset.specs.Reading.{accepted_reading, task_set_of}
use Rattle.hyperperiod.proofs.MultipleLaws.{multiple_there, multiple_is}
use Rattle.taskset.proofs.accepted.Goals as goal

pub unwrap-h-requires : goal.unwrap-h-requires
unwrap-h-requires c = multiple_there c.requires c.common_multiple.ensures

pub demands-requires : goal.demands-requires
demands-requires c = (c.requires, multiple_is c.requires c.common_multiple.ensures c.unwrap-h.ensures)

pub returns : goal.returns
unfolding accepted_reading task_set_of
returns c =
    let h = multiple_is c.requires c.common_multiple.ensures c.unwrap-h.ensures in
    λ i. record { outcome = Ok tt; tasks = record { fields = c.args.f; hyperperiod = h i; demands = c.demands.ensures i } }
