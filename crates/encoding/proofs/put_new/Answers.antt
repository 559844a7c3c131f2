-- Four bytes, then piece after piece behind them.
use native.Mathlib.Omega.{arith}
use lib.ListN.{length-set}
use Rattle.encoding.proofs.PutLaws.{periods_room, budgets_room, affinity_room, new_put}
use Rattle.encoding.proofs.put_new.Goals as goal

pub bounds-out-1 : goal.bounds-out-1
bounds-out-1 c = simp length-set (omega arith)

pub bounds-out-2 : goal.bounds-out-2
bounds-out-2 c = simp length-set (omega arith)

pub bounds-out-3 : goal.bounds-out-3
bounds-out-3 c = simp length-set (omega arith)

pub put_words-requires : goal.put_words-requires
put_words-requires c = periods_room _ c.requires.0 c.args.out.now c.requires.1

pub put_words-requires-2 : goal.put_words-requires-2
put_words-requires-2 c = budgets_room _ c.requires.0 c.args.out.now c.requires.1 c.put_words.ensures

pub put_bytes-requires : goal.put_bytes-requires
put_bytes-requires c = affinity_room _ c.requires.0 c.args.out.now c.requires.1 c.put_words.ensures c.put_words-2.ensures

pub returns : goal.returns
returns c = new_put _ c.requires.0 c.args.out.now c.requires.1 c.put_words.ensures c.put_words-2.ensures c.put_bytes.ensures
