-- The three numbers of a record stand in the row.
use mathlib.Core.Path.{refl}
use Rattle.logwords.specs.Words.{stored}
use Rattle.logwords.proofs.WordLaws.{record_inside, second_inside, third_inside}
use borrow.Author.Rules.{rules}
use Rattle.logwords.proofs.put_run.Goals as goal

pub overflow_mul-at : goal.overflow_mul-at
unfolding stored
overflow_mul-at c = let h = record_inside c.args.words.now c.args.k c.requires in search (rules, h)

pub offset_bounds-words-at : goal.offset_bounds-words-at
unfolding stored
offset_bounds-words-at c = let h = record_inside c.args.words.now c.args.k c.requires in search (rules, h)

pub bounds-words-at : goal.bounds-words-at
unfolding stored
bounds-words-at c = let h = record_inside c.args.words.now c.args.k c.requires in search (rules, h)

pub overflow_add-words : goal.overflow_add-words
unfolding stored
overflow_add-words c = let h = record_inside c.args.words.now c.args.k c.requires in search (rules, h)

pub offset_bounds-words-at-2 : goal.offset_bounds-words-at-2
unfolding stored
offset_bounds-words-at-2 c = let h = record_inside c.args.words.now c.args.k c.requires in search (rules, h)

pub bounds-words-at-2 : goal.bounds-words-at-2
unfolding stored
bounds-words-at-2 c = search (rules, second_inside c.args.words.now c.args.k c.args.r.task c.requires)

pub overflow_add-words-2 : goal.overflow_add-words-2
unfolding stored
overflow_add-words-2 c = let h = record_inside c.args.words.now c.args.k c.requires in search (rules, h)

pub offset_bounds-words-at-3 : goal.offset_bounds-words-at-3
unfolding stored
offset_bounds-words-at-3 c = let h = record_inside c.args.words.now c.args.k c.requires in search (rules, h)

pub bounds-words-at-3 : goal.bounds-words-at-3
unfolding stored
bounds-words-at-3 c = search (rules, third_inside c.args.words.now c.args.k c.args.r.task c.args.r.first c.requires)

pub returns : goal.returns
unfolding stored
returns c = refl
