-- The verdict and two numbers.
use Rattle.report.proofs.LineLaws.{summary_made}
use Rattle.report.proofs.append_summary.Goals as goal

pub returns : goal.returns
returns c =
    summary_made c.args.plan c.append_verdict-word.ensures (rw c.from.ensures at c.append_field-rejected.ensures)
    (rw c.from-2.ensures at c.append_field-steps.ensures) c.append_bytes.ensures
