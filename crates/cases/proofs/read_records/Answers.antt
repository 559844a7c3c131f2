-- There is room for the records that are read.
use Rattle.std.proofs.Common.{arith}
use Rattle.logwords.proofs.WordLaws.{records_count}
use Rattle.cases.proofs.read_records.Goals as goal

pub read_runs-requires : goal.read_runs-requires
read_runs-requires c = omega (arith, records_count c.args.words.now, c.if-words-n.false)
