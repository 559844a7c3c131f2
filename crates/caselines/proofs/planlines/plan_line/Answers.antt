-- Number and place, three numbers, the cores, a line feed.
use Rattle.decimal.proofs.JoinLaws.{as_itself}
use Rattle.caselines.proofs.LineLaws.{plan_whole}
use Rattle.caselines.proofs.planlines.plan_line.Goals as goal

pub returns : goal.returns
returns c =
    plan_whole c.args.plan c.empty-nothing.ensures c.verdict_outcome.ensures c.append_outcome-start.ensures c.verdict_number.ensures
    c.append_field-word.ensures (rw c.from.ensures at c.append_field-rejected.ensures) (rw c.from-2.ensures at c.append_field-steps.ensures)
    (c.append_row-cores.ensures (λ x. x) as_itself) c.append_bytes.ensures
