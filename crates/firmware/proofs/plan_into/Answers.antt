-- A refusal leaves the buffer; otherwise code and buffer are those of the plan.
use Prim.Native.Nat.{ℕ}
use lib.ListN.{length-take}
use native.Mathlib.Omega.{arith}
use Rattle.firmware.proofs.CallLaws.{call_checked, call_fits, call_refused, call_planned}
use Rattle.firmware.proofs.plan_into.Goals as goal

pub plan_tasks-answer-requires : goal.plan_tasks-answer-requires
plan_tasks-answer-requires c = call_checked _ _ c.read_new-reading.ensures.answer c.room_test-fits.ensures c.then-outcome.ensures c.in-Ok.is c.read_new-reading.ensures.reads

pub put_bytes-requires : goal.put_bytes-requires
put_bytes-requires c =
    omega (arith, length-take {A = ℕ}, (call_fits _ _ c.read_new-reading.ensures.answer c.room_test-fits.ensures c.then-outcome.ensures c.in-Ok.is).1)

pub returns-in-Err : goal.returns-in-Err
returns-in-Err c =
    let said = call_refused _ _ _ c.read_new-reading.ensures.answer c.room_test-fits.ensures c.then-outcome.ensures c.in-Err.is c.code.ensures in
    record { code = said.0; buffer = said.1 }

pub returns-in-Ok : goal.returns-in-Ok
returns-in-Ok c =
    let said = call_planned _ _ _ c.read_new-reading.ensures.answer c.room_test-fits.ensures c.then-outcome.ensures c.in-Ok.is c.plan_tasks-answer.ensures c.code-in-Ok.ensures c.put_bytes.ensures in
    record { code = said.0; buffer = said.1 }
