-- The old form is read, and its fields are stored in the new one.
use native.Mathlib.Omega.{arith}
use mathlib.Core.Path.{refl}
use lib.ListN.{length}
use Rattle.refusal.specs.declared.Cause.TheVariants.{Buffer}
use Rattle.storing.proofs.StorableLaws.{call_answer, call_output, call_decides, call_stores}
use Rattle.transfer.proofs.CallLaws.{moving, moved_on}
use Rattle.transfer.proofs.to_new.Goals as goal

pub returns : goal.returns
returns c =
    let s = c.args.table.now in
    let out = c.args.out.now in
    let e = call_answer Buffer refl (moving s) c.read_alone-reading.ensures.answer (length out) c.store.ensures.answer in
    let o = call_output Buffer refl (moving s) c.read_alone-reading.ensures.answer out c.store.ensures.output in
    record {
      answer = e;
      output = o;
      decides = call_decides Buffer refl (moving s) out e o;
      stores = call_stores Buffer refl (moving s) out e o;
      moved = moved_on s out e o (λ i. omega (arith, c.shared_slice_known-1.given i));
    }
