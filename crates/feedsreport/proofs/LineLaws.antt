-- The line of an order, piece by piece.
use Prim.Native.Nat.{ℕ, ◌-◌, ◌*◌, ◌≤◌}
use mathlib.Core.Path.{◌≡◌}
use mathlib.Core.List.{List, []}
use lib.ListN.{length, get_or, take, drop, length-take}
use native.Mathlib.Omega.{arith}
use Rattle.text.specs.Ascii.{ascii}
use Rattle.decimal.specs.Decimal.{decimal}
use Rattle.decimal.specs.Joined.{fields}
use Rattle.text.specs.Shown.{shown, Appended}
use Rattle.text.specs.declared.Text.{Text}
use Rattle.text.proofs.ClipLaws.{append_both, append_whole}
use Rattle.feedsreport.specs.Output.{order_line}

-- the first number, those behind it and a line feed: less than a text holds
pub order-made : {t a b r : Text} (n : ℕ) (order : List ℕ) → n ≤ 16 → shown t ≡ [] → Appended t (decimal (get_or order 0 0)) 20 a
    → Appended a (fields (take (n - 1) (drop 1 order))) (21 * length (take (n - 1) (drop 1 order))) b → Appended b (ascii "\n") 1 r → shown r ≡ order_line n order
unfolding order_line
order-made n order few z p q u = append_whole z (append_both (append_both p q) u) (omega (arith, length-take (n - 1) (drop 1 order)))
