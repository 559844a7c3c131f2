-- The front of the output, and the refusal.
use Rattle.movereport.proofs.MoveLaws.{front-there, table_shown}
use borrow.Author.Rules.{rules}
use Rattle.movereport.proofs.texts.Goals as goal

pub slice_bounds-append_bytes-end : goal.slice_bounds-append_bytes-end
slice_bounds-append_bytes-end c = search (rules, front-there)

pub returns : goal.returns
returns c = record { table = search (rules, table_shown); refusal = search rules }
