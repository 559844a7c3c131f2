-- The fields are tested, then stored.
use mathlib.Core.Path.{refl}
use lib.ListN.{length}
use Rattle.refusal.specs.declared.Cause.TheVariants.{Buffer}
use Rattle.storing.proofs.StorableLaws.{call_answer, call_output, call_decides, call_stores}
use Rattle.transfer.proofs.CallLaws.{writing, written_reading, write_back, write_unread}
use Rattle.transfer.proofs.write_new.Goals as goal

pub returns : goal.returns
returns c =
    let f = c.args.f in
    let out = c.args.out.now in
    let g = written_reading f c.counted.ensures c.check-reading.ensures.answer in
    let e = call_answer Buffer refl (writing f) g (length out) c.store.ensures.answer in
    let o = call_output Buffer refl (writing f) g out c.store.ensures.output in
    record {
      answer = e;
      output = o;
      decides = call_decides Buffer refl (writing f) out e o;
      stores = call_stores Buffer refl (writing f) out e o;
      back = write_back f out e o;
      unread = write_unread f out e o;
    }
