-- Three numbers are a record.
use Rattle.logwords.proofs.WordLaws.{records_count}
use Rattle.logwords.proofs.WordsLayout.count.Goals as goal

pub returns : goal.returns
returns c = records_count c.args.words.now
