-- A space, then the number.
use Rattle.decimal.proofs.NumberLaws.{field-made}
use Rattle.decimal.proofs.append_field.Goals as goal

pub returns : goal.returns
returns c = field-made _ c.append_byte-spaced.ensures c.append_decimal.ensures
