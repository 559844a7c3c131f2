-- The sizes are tested first, then the limits.
use Rattle.taskset.proofs.ReadingLaws.{sizes_say}
use Rattle.taskset.proofs.TableLaws.{bare_read}
use borrow.Author.Rules.{rules}
use Rattle.taskset.proofs.check.Goals as goal

pub check_after-requires : goal.check_after-requires
check_after-requires c = search (rules, sizes_say)

pub returns : goal.returns
returns c =
    let said = bare_read _ c.size_tests-sizes.ensures c.check_after.ensures in
    record { answer = said.0; decides = said.1.0; reads = said.1.1 }
