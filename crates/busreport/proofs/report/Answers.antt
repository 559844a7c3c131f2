-- The table is read, and what was read is reported.
use Rattle.busreport.proofs.OutputLaws.{bus_output}
use Rattle.busreport.proofs.report.Goals as goal

pub returns : goal.returns
returns c =
    let said = bus_output _ c.read_bus-reading.ensures.answer c.report_read.ensures in
    record { answer = said.0; reported = said.1.0; read_back = said.1.1.0; agrees = said.1.1.1 }
