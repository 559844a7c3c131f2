-- The output has room for every accepted table.
use lib.Dec.{lit≤}
use Rattle.movereport.proofs.MoveLaws.{old_length_fact, old_both}
use Rattle.movereport.proofs.to_old.Goals as goal

pub texts-requires : goal.texts-requires
texts-requires c = let m = c.to_old-answer.ensures in old_length_fact _ _ m.answer m.output (lit≤ tt) m.stores.whole (lit≤ tt)

pub returns : goal.returns
returns c =
    let m = c.to_old-answer.ensures in let said = old_both _ _ m.answer m.output (lit≤ tt) c.texts.ensures in
    record { answer = said.0; reported = said.1 }
