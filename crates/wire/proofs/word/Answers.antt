-- Past the end every byte is 0; before it the four bytes are added.
use Rattle.wire.proofs.ByteLaws.{word_past}
use borrow.Author.Rules.{rules}
use Rattle.wire.proofs.word.Goals as goal

pub returns-then-s-at : goal.returns-then-s-at
returns-then-s-at c = search (rules, word_past)
