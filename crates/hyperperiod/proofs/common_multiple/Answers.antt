-- The running multiple, task by task, until it exceeds 1,000,000.
use Rattle.hyperperiod.proofs.MultipleLaws.{multiply_start, multiply_next, multiply_exceeded, multiply_done}
use Rattle.hyperperiod.proofs.common_multiple.Goals as goal

pub loop-k-init : goal.loop-k-init
loop-k-init c = multiply_start _ c.requires

pub returns-then-next-gt-MOST_MULTIPLE : goal.returns-then-next-gt-MOST_MULTIPLE
returns-then-next-gt-MOST_MULTIPLE c = multiply_exceeded c.loop-k.invariant c.loop-k-test.true _ c.lcm-next.ensures c.if-next-gt-MOST_MULTIPLE.true

pub loop-k-preserved : goal.loop-k-preserved
loop-k-preserved c = multiply_next c.loop-k.invariant c.loop-k-test.true _ c.lcm-next.ensures c.if-next-gt-MOST_MULTIPLE.false

pub returns : goal.returns
returns c = multiply_done c.loop-k.invariant c.loop-k-test.false
