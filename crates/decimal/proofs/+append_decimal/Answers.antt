-- The digits of x / 10, then the last one.
use Rattle.std.proofs.Common.{rules}
use Rattle.decimal.proofs.NumberLaws.{number_one, number_more}
use Rattle.decimal.proofs.+append_decimal.Goals as goal

pub returns-then-x-lt10 : goal.returns-then-x-lt10
returns-then-x-lt10 t c = number_one c.args.x (search rules) c.digit.ensures c.if-x-lt10.true c.append_byte.ensures

pub returns : goal.returns
returns t c = number_more c.args.x (search rules) c.digit-2.ensures c.if-x-lt10.false c.append_decimal-front.ensures c.append_byte-2.ensures
