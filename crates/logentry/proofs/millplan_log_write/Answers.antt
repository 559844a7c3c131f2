-- What the answer decides and promises, its reply does.
use Prim.Native.Nat.{ℕ}
use Rattle.recording.specs.Promise.{Writes}
use Rattle.logentry.proofs.ReplyLaws.{reply_decides, reply_says, write_fits}
use Rattle.logentry.proofs.millplan_log_write.Goals as goal

pub in_numbers-requires : goal.in_numbers-requires
in_numbers-requires c = write_fits _ _ c.write_log-answer.ensures.answer

pub returns-clause-decides : goal.returns-clause-decides
returns-clause-decides c = reply_decides _ c.in_numbers.ensures c.write_log-answer.ensures.decides

pub returns-clause-writes : goal.returns-clause-writes
returns-clause-writes c = reply_says _ c.in_numbers.ensures (λ (n k : ℕ). Writes c.args.answers.now c.args.runs.now n k c.write_log-answer.new.records) c.write_log-answer.ensures.writes
