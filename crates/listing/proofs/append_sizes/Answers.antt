-- The word and three numbers.
use Rattle.listing.proofs.LineLaws.{sizes-made}
use Rattle.listing.proofs.append_sizes.Goals as goal

pub returns : goal.returns
returns c =
    sizes-made c.args.t c.append_bytes-word.ensures c.append_field-n.ensures c.append_field-m.ensures
    (rw c.from.ensures at c.append_field-h.ensures) c.append_bytes.ensures
