-- The bytes are read with the core bytes that are given.
use mathlib.Core.Path.{◌∙◌}
use Rattle.oldform.proofs.FormLaws.{fields-beside, from_front}
use Rattle.oldform.proofs.OldLaws.{beside_read}
use Rattle.oldform.proofs.read_beside.Goals as goal

pub returns : goal.returns
returns c =
    let args = c.args in
    let f = fields-beside args.table.now _ args.affinity.now (from_front args.affinity.now _ c.bytes-row.ensures) (c.size-n.ensures.0 ∙ c.byte.ensures) in
    let said = beside_read _ _ _ c.read_with.ensures f in
    record { answer = said.0; decides = said.1.0; reads = said.1.1.0; stored = said.1.1.1 }
