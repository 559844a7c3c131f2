-- The bytes are decoded, and their shape, the list and the general limits are tested.
use Rattle.newform.proofs.NewLaws.{new_sized}
use Rattle.bus.proofs.BusLaws.{front_sized, bus_read}
use Rattle.bus.proofs.PromiseLaws.{read_all}
use Rattle.bus.proofs.read_bus.Goals as goal

pub front_tests-front-requires : goal.front_tests-front-requires
front_tests-front-requires c = new_sized _ _ c.shape_tests.ensures

pub check_after-requires : goal.check_after-requires
check_after-requires c = front_sized _ _ c.front_tests-front.ensures c.shape_tests.ensures

pub returns : goal.returns
returns c =
    let said = read_all _ (bus_read _ c.check_after.ensures c.front_tests-front.ensures c.shape_tests.ensures c.decode-f.ensures) in
    record { answer = said.0; decides = said.1.0; reads = said.1.1.0; stored = said.1.1.1.0; profile = said.1.1.1.1 }
