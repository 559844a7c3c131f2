-- The whole output of the program `feeds`, byte for byte. Single spaces; the line ends with a line feed.
use Rattle.std.specs.Prelude.{ℕ, ◌-◌, List, ◌++◌, take, drop}
use Rattle.numbers.specs.Rows.{entry}
use Rattle.text.specs.Ascii.{ascii}
use Rattle.decimal.specs.Decimal.{decimal}
use Rattle.decimal.specs.Joined.{fields}
use Rattle.taskset.specs.Table.{Table}
use Rattle.newform.specs.Limits.{new}
use Rattle.dependencies.specs.Order.{order_of}
use Rattle.listing.specs.Printed.{printed}
use Rattle.feedsreport.specs.Split.{table_in, list_in}

-- the line of an order: the first n task numbers of its row
unfoldable pub order_line : ℕ → List ℕ → List ℕ
order_line n order = decimal (entry order 0) ++ fields (take (n - 1) (drop 1 order)) ++ ascii "\n"

-- the output for a table and a list: the order of the table's tasks
unfoldable pub order_output_of : Table → List ℕ → List ℕ
order_output_of t list = printed (order_of t list).outcome (order_line t.fields.n (order_of t list).order)

-- the output for an input: that for its table and its list
unfoldable pub feeds_output_of : List ℕ → List ℕ
feeds_output_of input = order_output_of (new (table_in input)) (list_in input)
