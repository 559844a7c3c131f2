-- The line of an order is read back.
use Prim.Native.Nat.{ℕ, suc, ◌-◌, ◌≤◌}
use mathlib.Core.Path.{◌≡◌, sym, ◌∙◌, ap}
use mathlib.Core.List.{List, [], ◌∷◌, ◌++◌, map, append_assoc, append-nil}
use lib.ListN.{length, take, drop, length-map, get_or-map}
use lib.Seq.{length-take-le, get_or-take}
use native.Mathlib.Omega.{arith}
use Rattle.numbers.specs.Rows.{entry}
use Rattle.numbers.proofs.RowLaws.{entries_there}
use Rattle.decimal.specs.Decimal.{field}
use Rattle.decimal.specs.Joined.{joined, fields}
use Rattle.decimal.specs.Reader.{Item, number, read_text, nothing}
use Rattle.decimal.proofs.BackLaws.{Part, number_part, field_part, Line, line_ends}
use Rattle.precedence.specs.Order.{IsOrder}
use Rattle.listing.proofs.BackLaws.{last_read}
use Rattle.feedsreport.specs.Output.{order_line}
use Rattle.feedsreport.specs.Reported.{OrderRead}

-- numbers, a space before each
fields_part : {bytes : List ℕ} {items : List Item} (xs : List ℕ) → Part bytes items → Part (bytes ++ fields xs) (items ++ map number xs)
unfolding joined
fields_part {bytes} {items} [] p = rw (append-nil bytes, append-nil items) p
fields_part {bytes} {items} (x ∷ xs) p =
    rw (append_assoc bytes (field x) (fields xs), append_assoc items (number x ∷ []) (map number xs)) at (fields_part {bytes = bytes ++ field x} {items = items ++ (number x ∷ [])} xs (field_part x p))

-- the first entry, and those behind it
first_and_rest : (n : ℕ) (xs : List ℕ) → 1 ≤ n → n ≤ length xs → entry xs 0 ∷ take (n - 1) (drop 1 xs) ≡ take n xs
first_and_rest n [] some there = absurd (omega arith)
first_and_rest n (x ∷ xs) some there = let e : n ≡ suc (n - 1) = omega arith in sym (ap (λ k. take k (x ∷ xs)) e)

module _ (n : ℕ) (order : List ℕ) (some : 1 ≤ n) (there : n ≤ length order) where
  order-line : Line (order_line n order) (map number (take n order))
  unfolding order_line
  order-line = rw (← first_and_rest n order some there) (line_ends (fields_part (take (n - 1) (drop 1 order)) (number_part (entry order 0))))

  lines_are : read_text (order_line n order) ≡ map number (take n order) ∷ nothing ∷ []
  lines_are = last_read order-line

  pub order_read : OrderRead n order (order_line n order)
  order_read = record {
    count = rw lines_are (length-map (take n order) number ∙ length-take-le n order there);
    task = λ k h. rw lines_are (get_or-map number (take n order) k 0 ∙ ap number (get_or-take n order k 0 h));
    end = rw lines_are;
    whole = rw lines_are;
  }

-- an order has an entry for each task
pub order-there : {Feeds : ℕ → ℕ → Type 0} {n : ℕ} {order : List ℕ} → IsOrder Feeds n order → n ≤ length order
order-there {n = n} {order = order} o = entries_there n order (λ k h. (o.tasks k h).least)
