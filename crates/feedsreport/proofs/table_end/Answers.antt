-- The input is split by its byte 1 and its length.
use Rattle.feedsreport.proofs.SplitLaws.{end_input, end_tasks}
use borrow.Author.Rules.{rules}
use Rattle.feedsreport.proofs.table_end.Goals as goal

pub returns-then-outside-length : goal.returns-then-outside-length
returns-then-outside-length c = search (rules, end_input)

pub returns : goal.returns
returns c = search (rules, end_tasks)
