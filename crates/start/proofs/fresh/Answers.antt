-- The table is read first; its task set is the one that starts.
use Rattle.start.proofs.StartLaws.{start_refused, start_checked, start_all}
use Rattle.oldform.proofs.OldLaws.{beside_sound}
use borrow.Author.Rules.{rules}
use Rattle.start.proofs.fresh.Goals as goal

pub start-requires : goal.start-requires
start-requires c = c.read_beside-reading.ensures.reads.checked (search rules)

pub returns-in-Err : goal.returns-in-Err
returns-in-Err c =
    let said = start_all (beside_sound _ _ _) _ _ (search (rules, start_refused)) in
    record { answer = said.0; decides = said.1.0; starts = said.1.1 }

pub returns-in-Ok : goal.returns-in-Ok
returns-in-Ok c =
    let said = start_all (beside_sound _ _ _) _ _ (search (rules, start_checked)) in
    record { answer = said.0; decides = said.1.0; starts = said.1.1 }
