-- The slots before the loop's index are there.
use Rattle.decimal.proofs.JoinLaws.{Joined}
use Rattle.caselines.specs.Lines.{slot_fields}
use Rattle.caselines.proofs.lines.append_slots.Given as goal

abbrev pub invariant-loop-s : goal.invariant-loop-s
invariant-loop-s l = Joined slot_fields 84 16 l.initial.longer l.s-items l.longer l.s-index
