-- The table ends within the input; the output is that for the parts.
use Rattle.feedsreport.proofs.SplitLaws.{split_within, table_there}
use Rattle.feedsreport.proofs.OutputLaws.{output_split, output_all}
use borrow.Author.Rules.{rules}
use Rattle.feedsreport.proofs.report.Goals as goal

pub slice_bounds-order_report-end : goal.slice_bounds-order_report-end
slice_bounds-order_report-end c = search (rules, table_there)

pub slice_bounds-order_report-count : goal.slice_bounds-order_report-count
slice_bounds-order_report-count c = search (rules, split_within)

pub slice_bounds-order_report-start : goal.slice_bounds-order_report-start
slice_bounds-order_report-start c = search (rules, split_within)

pub returns : goal.returns
returns c =
    let said = output_all _ (search (rules, output_split)) in
    record { answer = said.0; split = said.1.0; reported = said.1.1.0; read_back = said.1.1.1 }
