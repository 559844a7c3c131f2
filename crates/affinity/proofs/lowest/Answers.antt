use borrow.Author.Rules.{rules}
use native.Mathlib.Omega.{arith}
use native.Mathlib.Numerals.{add-one}
use mathlib.Core.Path.{◌∙◌}
use lib.Count.{trailing_le, ones-le}
use Rattle.affinity.proofs.PermittedLaws.{lowest_zeros, lowest_none}
use Rattle.affinity.proofs.lowest.Goals as goal

pub returns-then-byte-eq0 : goal.returns-then-byte-eq0
returns-then-byte-eq0 c = search (rules, lowest_none)

-- src/lib.rt: the trailing zeros are at most 8, and so are the ones: a wrong count is refused for its answer
pub overflow_add-result : goal.overflow_add-result
overflow_add-result c = omega (arith, trailing_le 8 c.args.byte, ones-le 8 c.args.byte (search rules))

pub returns : goal.returns
returns c = add-one _ ∙ lowest_zeros c.args.byte 8 (omega (arith, c.if-byte-eq0.false)) (search rules)
