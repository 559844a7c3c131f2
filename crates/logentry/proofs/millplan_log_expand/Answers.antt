-- What the answer decides and promises, its reply does.
use Prim.Native.Nat.{ℕ}
use Rattle.replay.specs.Promise.{Expands}
use Rattle.logentry.proofs.ReplyLaws.{reply_decides, reply_says, expand-fits}
use Rattle.logentry.proofs.millplan_log_expand.Goals as goal

pub in_numbers-requires : goal.in_numbers-requires
in_numbers-requires c = expand-fits _ _ c.expand_log-answer.ensures.answer

pub returns-clause-decides : goal.returns-clause-decides
returns-clause-decides c = reply_decides _ c.in_numbers.ensures c.expand_log-answer.ensures.decides

pub returns-clause-expands : goal.returns-clause-expands
returns-clause-expands c = reply_says _ c.in_numbers.ensures (λ (n k : ℕ). Expands c.args.runs.now c.args.answers.now n k c.expand_log-answer.new.bytes) c.expand_log-answer.ensures.expands
