-- Two bytes, then piece after piece behind them.
use native.Mathlib.Omega.{arith}
use lib.ListN.{length-set}
use Rattle.encoding.proofs.PutLaws.{old_periods_room, old_budgets_room, old_put}
use Rattle.encoding.proofs.put_old.Goals as goal

pub bounds-out-1 : goal.bounds-out-1
bounds-out-1 c = simp length-set (omega arith)

pub put_words-requires : goal.put_words-requires
put_words-requires c = old_periods_room _ c.requires.0 c.args.out.now c.requires.1

pub put_words-requires-2 : goal.put_words-requires-2
put_words-requires-2 c = old_budgets_room _ c.requires.0 c.args.out.now c.requires.1 c.put_words.ensures

pub returns : goal.returns
returns c = old_put _ c.requires.0 c.args.out.now c.requires.1 c.put_words.ensures c.put_words-2.ensures
