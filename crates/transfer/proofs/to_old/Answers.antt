-- The new form is read, its fillings are tested, and its fields are stored in the old one.
use native.Mathlib.Omega.{arith}
use mathlib.Core.Path.{refl}
use lib.ListN.{length}
use Rattle.refusal.specs.declared.Cause.TheVariants.{Buffer}
use Rattle.taskset.proofs.ReadingLaws.{reads_few}
use Rattle.taskset.proofs.TableLaws.{read_reads}
use Rattle.storing.proofs.StorableLaws.{call_answer, call_output, call_decides, call_stores}
use Rattle.transfer.proofs.CallLaws.{returned_sound, returning, returned_reading, moved_back}
use Rattle.transfer.proofs.to_old.Goals as goal

pub filling_test-filling-requires : goal.filling_test-filling-requires
filling_test-filling-requires c = reads_few _ c.read_new-read.ensures.reads

pub store-requires : goal.store-requires
store-requires c =
    let s = c.args.table.now in
    read_reads _ (returned_reading s c.read_new-read.ensures.answer c.filling_test-filling.ensures c.also-reading.ensures) (returned_sound s)

pub returns : goal.returns
returns c =
    let s = c.args.table.now in
    let out = c.args.out.now in
    let g = returned_reading s c.read_new-read.ensures.answer c.filling_test-filling.ensures c.also-reading.ensures in
    let e = call_answer Buffer refl (returning s) g (length out) c.store.ensures.answer in
    let o = call_output Buffer refl (returning s) g out c.store.ensures.output in
    record {
      answer = e;
      output = o;
      decides = call_decides Buffer refl (returning s) out e o;
      stores = call_stores Buffer refl (returning s) out e o;
      moved = moved_back s out e o (λ i. omega (arith, c.shared_slice_known-1.given i));
    }
