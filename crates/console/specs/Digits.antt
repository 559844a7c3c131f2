-- A text's digits are those that the kit prints.
use Rattle.std.specs.Prelude.{ℕ, zero, suc, ◌+◌, ◌-◌, ◌/◌, ◌%◌, ◌^◌, ◌<◌, ◌≤◌, ◌≡◌, List, [], ◌∷◌, ◌++◌, cond, nat_lt}
use Rattle.std.specs.Fmt.{decimal as printed}
use Rattle.decimal.specs.Decimal.{decimal}

-- the code of a digit below 16: `0` to `9`, then `a` to `f`
abbrev pub hex_digit_ascii : ℕ → ℕ
hex_digit_ascii d = cond (nat_lt d 10) (48 + d) (87 + d)

-- the last k digits of n in base b, the most significant first
abbrev pub last_digits : ℕ → ℕ → ℕ → List ℕ
last_digits b zero n = []
last_digits b (suc k) n = last_digits b k (n / b) ++ (hex_digit_ascii (n % b) ∷ [])

-- n takes k digits in base b, at least so many as `width`
abbrev pub IsDigitCount : ℕ → ℕ → ℕ → ℕ → Type 0
IsDigitCount b width n k = (width ≤ k) × (n < b ^ k) × (width < k → b ^ (k - 1) ≤ n)

-- The fewest decimal digits that hold a number, at least one, are its decimal.
abbrev pub KitDigits : Type 0
KitDigits = (x k : ℕ) → IsDigitCount 10 1 x k → last_digits 10 k x ≡ decimal x

-- What the kit prints of a number of 64 bits is its decimal.
abbrev pub PrintedDigits : Type 0
PrintedDigits = (x : ℕ) → x < 2 ^ 64 → printed x ≡ decimal x
