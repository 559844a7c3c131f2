-- The output in the terms of the table and the list.
use Rattle.std.specs.Prelude.{ℕ, ◌≤◌, ◌<◌, ◌≡◌, List, length, get_or}
use Rattle.numbers.specs.Rows.{entry}
use Rattle.decimal.specs.Reader.{number, read_text, nothing}
use Rattle.refusal.specs.Conditions.{First}
use Rattle.taskset.specs.Table.{Table}
use Rattle.precedence.specs.Order.{IsOrder}
use Rattle.pairs.specs.Fit.{Feeds}
use Rattle.feeding.specs.Limits.{Orderly, fed_by}
use Rattle.dependencies.specs.Order.{order_for}
use Rattle.listing.specs.Printed.{Printed}
use Rattle.listing.specs.ReadBack.{line_at, RefusalRead}
use Rattle.feedsreport.specs.Output.{order_line}

-- The output for a valid table and an orderly list is the line of the tasks' order; for others it is the refusal alone.
abbrev pub Reported : Table → List ℕ → List ℕ → Type 0
Reported t list output = Printed (fed_by t list) (order_line t.fields.n (order_for list t.fields).order) output

-- A text of one line: n numbers, which are the first n entries of the row, and nothing after its line feed.
pub record OrderRead (n : ℕ) (order text : List ℕ) : Type 0 where
  pub count : length (line_at text 0) ≡ n
  pub task : (k : ℕ) → k < n → get_or (line_at text 0) k (number 0) ≡ number (entry order k)
  pub end : line_at text 1 ≡ nothing
  pub whole : length (read_text text) ≡ 2

-- Read back by the codes of its bytes, the output for a valid table and an orderly list is the n tasks in their order, each after those that
-- feed it, the lowest ready number first; for others it is number and place of the first condition that holds.
pub record FeedsReadBack (t : Table) (list output : List ℕ) : Type 0 where
  pub ordered : t.Valid → Orderly t.fields list → (order : List ℕ) × IsOrder (Feeds list) t.fields.n order × OrderRead t.fields.n order output
  pub refused : (value place : ℕ) → 1 ≤ value → First (fed_by t list).conditions value place → RefusalRead value place output
