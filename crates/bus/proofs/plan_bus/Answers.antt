-- The table is read, and what was read is planned.
use Rattle.bus.proofs.PromiseLaws.{plan_kept}
use Rattle.bus.proofs.plan_bus.Goals as goal

pub returns : goal.returns
returns c =
    let said = plan_kept _ c.read_bus-reading.ensures.answer _ c.plan_read.ensures in
    record { answer = said.0; decides = said.1.0; plans = said.1.1.0; profile = said.1.1.1 }
