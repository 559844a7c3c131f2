-- The same with the byte of every core for each task; numbers 13, 14 and 15 need not be named.
use mathlib.Core.Path.{◌∙◌}
use Rattle.oldform.proofs.FormLaws.{fields-alone}
use Rattle.oldform.proofs.OldLaws.{alone_read}
use Rattle.oldform.proofs.read_alone.Goals as goal

pub returns : goal.returns
returns c =
    let f = fields-alone c.args.table.now c.repeated-every.ensures c.every_core.ensures
    (c.size-n.ensures.0 ∙ c.byte.ensures) (c.size-m.ensures.0 ∙ c.byte-2.ensures) in
    let said = alone_read _ c.read_with.ensures f in
    record { answer = said.0; decides = said.1.0; reads = said.1.1.0; stored = said.1.1.1 }
