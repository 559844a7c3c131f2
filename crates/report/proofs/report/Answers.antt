-- The table is read, and what was read is reported.
use Rattle.newform.proofs.NewLaws.{new_sound}
use Rattle.report.proofs.OutputLaws.{output_all}
use Rattle.report.proofs.report.Goals as goal

pub returns : goal.returns
returns c =
    let said = output_all (new_sound _) c.read_new-reading.ensures.answer c.report_read.ensures in
    record { answer = said.0; reported = said.1.0; read_back = said.1.1 }
