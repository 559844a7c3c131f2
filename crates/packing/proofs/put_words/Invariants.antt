-- After k turns the first k numbers stand one after another.
use lib.ListN.{length, take}
use Rattle.wire.specs.Bytes.{bytes_of_all}
use Rattle.wire.proofs.LentLaws.{Put}
use Rattle.packing.proofs.put_words.Given as goal

abbrev pub invariant-loop-k : goal.invariant-loop-k
invariant-loop-k l = Put l.initial.out l.at (length l.numbers) 4 (λ j. bytes_of_all (take j l.numbers)) l.out l.k
