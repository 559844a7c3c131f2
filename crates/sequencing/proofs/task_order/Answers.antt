-- The tasks so far stand in the row and are marked.
use Rattle.sequencing.proofs.MarkLaws.{place_start, place_next, place_done}
use borrow.Author.Rules.{rules}
use Rattle.sequencing.proofs.task_order.Goals as goal

pub loop-i-init : goal.loop-i-init
loop-i-init c = search (rules, place_start)

pub loop-i-preserved : goal.loop-i-preserved
loop-i-preserved c =
    place_next c.loop-i.invariant c.loop-i-test.true c.requires
    c.next_task-t.ensures.0 c.next_task-t.ensures.1

pub returns : goal.returns
returns c = search (rules, place_done)
