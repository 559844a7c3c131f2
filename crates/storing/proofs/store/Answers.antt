-- Where all tests accept the table is written; a refusal leaves the output.
use Rattle.refusal.specs.declared.Cause.TheVariants.{Buffer}
use Rattle.storing.proofs.StoreLaws.{store_ready, store_refused, store_accepted}
use Rattle.storing.proofs.store.Goals as goal

pub put-requires : goal.put-requires
put-requires g c = store_ready Buffer g.S.StoredForm.bytes g.S.StoredForm.size g.met.S.StoredForm.long _ c.requires c.args.out.now (rw c.length-size.ensures at c.room_after-outcome.ensures) c.in-Ok.is

pub returns-in-Err : goal.returns-in-Err
returns-in-Err g c =
    let said = store_refused Buffer g.S.StoredForm.bytes g.S.StoredForm.size g.met.S.StoredForm.long _ c.requires c.args.out.now (rw c.length-size.ensures at c.room_after-outcome.ensures) c.in-Err.is
    (rw c.length-size.ensures at c.answer.ensures) in
    record { answer = said.0; output = said.1 }

pub returns-in-Ok : goal.returns-in-Ok
returns-in-Ok g c =
    let said = store_accepted Buffer g.S.StoredForm.bytes g.S.StoredForm.size g.met.S.StoredForm.long _ c.requires c.args.out.now (rw c.length-size.ensures at c.room_after-outcome.ensures) c.in-Ok.is
    (rw c.length-size.ensures at c.answer-in-Ok.ensures) c.put.ensures in
    record { answer = said.0; output = said.1 }
