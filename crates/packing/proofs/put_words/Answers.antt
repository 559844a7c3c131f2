-- After k turns the first k numbers stand one after another.
use mathlib.Core.Path.{refl}
use Rattle.wire.proofs.LentLaws.{put_start, words_next}
use borrow.Author.Rules.{rules}
use Rattle.packing.proofs.put_words.Goals as goal

pub loop-k-init : goal.loop-k-init
loop-k-init c = put_start _ _ _ 4 _ c.requires refl

pub loop-k-preserved : goal.loop-k-preserved
loop-k-preserved c = words_next _ _ (search rules) c.loop-k.invariant (search rules) c.put_word.ensures
