-- Numbers in decimal, in ASCII: the most significant digit first, and no zero in front.
use Rattle.std.specs.Prelude.{ℕ, zero, suc, ◌+◌, ◌/◌, ◌%◌, ◌≡◌, List, [], ◌∷◌, ◌++◌}
use Rattle.text.specs.Ascii.{ascii}
use Rattle.decimal.specs.Reader.{number, item}

-- none for 0, and otherwise what `digits` gives
unfoldable pub front : (ℕ → List ℕ) → ℕ → List ℕ
front digits zero = []
front digits (suc q) = digits (suc q)

-- the last k digits, with no zero in front: those of x / 10, if it is not 0, and the last one
unfoldable pub digits_by : ℕ → ℕ → List ℕ
digits_by zero x = []
digits_by (suc k) x = front (digits_by k) (x / 10) ++ ((48 + x % 10) ∷ [])

-- all digits: x has no more than x + 1
unfoldable pub decimal : ℕ → List ℕ
decimal x = digits_by (suc x) x

-- a space and a number
unfoldable pub field : ℕ → List ℕ
field x = ascii " " ++ decimal x

-- Every number is read back from its digits.
abbrev pub NumbersReadBack : Type 0
NumbersReadBack = (x : ℕ) → item (decimal x) ≡ number x
