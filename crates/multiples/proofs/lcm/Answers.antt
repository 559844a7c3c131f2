-- The least common multiple is a over the greatest common divisor, times b.
use Rattle.numbers.proofs.MultipleLaws.{lcm_by, lcm-none}
use borrow.Author.Rules.{rules}
use Rattle.multiples.proofs.lcm.Goals as goal

pub returns-then-g-eq0 : goal.returns-then-g-eq0
returns-then-g-eq0 c = search (rules, lcm-none)

pub returns : goal.returns
returns c = search (rules, lcm_by)
