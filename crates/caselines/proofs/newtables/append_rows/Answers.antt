-- Three rows.
use Rattle.decimal.proofs.JoinLaws.{as_itself}
use Rattle.caselines.proofs.LineLaws.{rows_made}
use Rattle.caselines.proofs.newtables.append_rows.Goals as goal

pub returns : goal.returns
returns c =
    rows_made c.args.f (c.append_row-p.ensures (λ x. x) as_itself) (c.append_row-b.ensures (λ x. x) as_itself)
    (c.append_row.ensures (λ x. x) as_itself)
