-- The row is the one with the records of the log in place of its own.
use Rattle.logwords.specs.Words.{words_after}
use Rattle.logwords.proofs.write_words.Goals as goal

pub returns-clause-words : goal.returns-clause-words
unfolding words_after
returns-clause-words c = c.write.ensures.row
