-- The word, the rejected demand, a line feed.
use Rattle.quickreport.proofs.OutputLaws.{summary_made}
use Rattle.quickreport.proofs.append_summary.Goals as goal

pub returns : goal.returns
returns c =
    summary_made c.args.plan c.append_bytes-word.ensures (rw c.from.ensures at c.append_field-rejected.ensures) c.append_bytes.ensures
