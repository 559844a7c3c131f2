-- Numbers in bytes, lowest byte first.
use Rattle.std.specs.Prelude.{ℕ, ◌+◌, ◌*◌, ◌/◌, ◌%◌, ◌<◌, ◌≡◌, List, [], ◌∷◌, ◌++◌, length, get_or, take, drop}

-- the number in the four bytes of s from `at`
abbrev pub le32 : List ℕ → ℕ → ℕ
le32 s at = get_or s at 0 + 256 * get_or s (at + 1) 0 + 65536 * get_or s (at + 2) 0 + 16777216 * get_or s (at + 3) 0

-- number k, from 0, of those that stand one after another in s from `at`
unfoldable pub word_at : List ℕ → ℕ → ℕ → ℕ
word_at s at k = le32 s (at + 4 * k)

-- byte k, from 0, of those that stand in s from `at`
unfoldable pub byte_at : List ℕ → ℕ → ℕ → ℕ
byte_at s at k = get_or s (at + k) 0

-- the four bytes of a number
abbrev pub bytes_of : ℕ → List ℕ
bytes_of x = (x % 256) ∷ (x / 256 % 256) ∷ (x / 65536 % 256) ∷ (x / 16777216 % 256) ∷ []

-- the bytes of numbers that stand one after another
abbrev pub bytes_of_all : List ℕ → List ℕ
bytes_of_all [] = []
bytes_of_all (x ∷ xs) = bytes_of x ++ bytes_of_all xs

-- Numbers of 32 bits are read back from their bytes, whatever stands before and behind them.
pub record ReadBack (xs : List ℕ) : Type 0 where
  pub each : (front behind : List ℕ) (k : ℕ) → k < length xs → word_at (front ++ (bytes_of_all xs ++ behind)) (length front) k ≡ get_or xs k 0

-- every number is below 2 to the power of 32
abbrev pub Words : List ℕ → Type 0
Words [] = Unit {0}
Words (x ∷ xs) = (x < 4294967296) × Words xs

-- every number is a byte; those past the end count as 0
abbrev pub Bytes : List ℕ → Type 0
Bytes s = (k : ℕ) → get_or s k 0 < 256

-- a lent output in which the bytes vs stand from `at` on; every other byte is what it was
unfoldable pub over : List ℕ → ℕ → List ℕ → List ℕ
over out at vs = take at out ++ vs ++ drop (at + length vs) out
