-- The bytes are decoded, and their shape and limits are tested.
use Rattle.newform.proofs.NewLaws.{new_sized, new_read}
use Rattle.newform.proofs.read_new.Goals as goal

pub check_after-requires : goal.check_after-requires
check_after-requires c = new_sized _ _ c.shape_tests.ensures

pub returns : goal.returns
returns c =
    let said = new_read _ c.check_after.ensures c.shape_tests.ensures c.decode-f.ensures in
    record { answer = said.0; decides = said.1.0; reads = said.1.1.0; stored = said.1.1.1 }
