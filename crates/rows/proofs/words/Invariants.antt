-- A row, filled from the front.
use Rattle.wire.specs.Bytes.{word_at}
use Rattle.numbers.proofs.RowLaws.{Filled}
use Rattle.rows.proofs.words.Given as goal

abbrev pub invariant-loop-k : goal.invariant-loop-k
invariant-loop-k l = Filled 0 l.k-end (word_at l.s l.at) l.entries l.k
