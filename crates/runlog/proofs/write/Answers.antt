-- The loop has written the first k records.
use mathlib.Core.Path.{◌∙◌, ap}
use Rattle.recording.specs.Tests.{write_answer}
use Rattle.recording.proofs.PromiseLaws.{write_decides, writes}
use Rattle.runlog.proofs.WritingLaws.{writing_start, next_begins, next_ends, next_there, writing_next, written, written_records}
use Rattle.runlog.proofs.write.Goals as goal

pub loop-k-init : goal.loop-k-init
loop-k-init g c = (c.write_answer-answer.ensures ∙ ap (write_answer _) c.count.ensures, writing_start g.met.L.Layout.laws _ _ _)

pub run_end-end-requires : goal.run_end-end-requires
run_end-end-requires g c = let i = c.loop-k.invariant in next_begins g.met.L.Layout.laws _ i.0 i.1 c.loop-k-test.true

pub run_of-requires : goal.run_of-requires
run_of-requires g c = let i = c.loop-k.invariant in next_ends g.met.L.Layout.laws _ i.0 i.1 _ c.loop-k-test.true c.run_end-end.ensures

pub put-requires : goal.put-requires
put-requires g c = let i = c.loop-k.invariant in next_there g.met.L.Layout.laws _ i.0 i.1 c.loop-k-test.true

pub loop-k-preserved : goal.loop-k-preserved
loop-k-preserved g c =
    let i = c.loop-k.invariant in
    (i.0, writing_next g.met.L.Layout.laws _ i.0 i.1 _ c.run_of.result c.put.ensures c.loop-k-test.true c.run_end-end.ensures c.run_of.ensures)

pub returns : goal.returns
returns g c =
    let i = c.loop-k.invariant in record {
      answer = i.0;
      row = written g.met.L.Layout.laws _ i.0 i.1 c.loop-k-test.false;
      decides = write_decides _ _ i.0;
      writes = writes _ _ i.0 (written_records g.met.L.Layout.laws _ i.0 i.1 c.loop-k-test.false);
    }
