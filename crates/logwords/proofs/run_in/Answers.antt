-- The three numbers of a record stand in the row.
use Rattle.logwords.proofs.WordLaws.{record_inside, record_at}
use borrow.Author.Rules.{rules}
use Rattle.logwords.proofs.run_in.Goals as goal

pub overflow_mul-at : goal.overflow_mul-at
overflow_mul-at c = let h = record_inside c.args.words.now c.args.k c.requires in search (rules, h)

pub offset_bounds-words-at : goal.offset_bounds-words-at
offset_bounds-words-at c = let h = record_inside c.args.words.now c.args.k c.requires in search (rules, h)

pub bounds-words-at : goal.bounds-words-at
bounds-words-at c = let h = record_inside c.args.words.now c.args.k c.requires in search (rules, h)

pub overflow_add-result : goal.overflow_add-result
overflow_add-result c = let h = record_inside c.args.words.now c.args.k c.requires in search (rules, h)

pub offset_bounds-words-at-2 : goal.offset_bounds-words-at-2
offset_bounds-words-at-2 c = let h = record_inside c.args.words.now c.args.k c.requires in search (rules, h)

pub bounds-words-at-2 : goal.bounds-words-at-2
bounds-words-at-2 c = let h = record_inside c.args.words.now c.args.k c.requires in search (rules, h)

pub overflow_add-result-2 : goal.overflow_add-result-2
overflow_add-result-2 c = let h = record_inside c.args.words.now c.args.k c.requires in search (rules, h)

pub offset_bounds-words-at-3 : goal.offset_bounds-words-at-3
offset_bounds-words-at-3 c = let h = record_inside c.args.words.now c.args.k c.requires in search (rules, h)

pub bounds-words-at-3 : goal.bounds-words-at-3
bounds-words-at-3 c = let h = record_inside c.args.words.now c.args.k c.requires in search (rules, h)

pub returns : goal.returns
returns c = record_at c.args.words.now c.args.k c.requires
