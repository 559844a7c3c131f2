-- A printed text read back, apart from what prints: by the codes of its bytes alone.
use Rattle.std.specs.Prelude.{ℕ, ◌+◌, ◌-◌, ◌*◌, ◌≡◌, Bool, true, false, cond, ◌&&◌, List, [], ◌∷◌, map, eqb, ltb, leb}

-- What stands between two spaces: a number, or else a word, letter by letter.
pub data Item : Type 0 where
  number : ℕ → Item
  word : List ℕ → Item

-- digits have the codes 48 to 57
abbrev pub all_digits : List ℕ → Bool
all_digits [] = true
all_digits (b ∷ bs) = leb 48 b && leb b 57 && all_digits bs

-- a number is one digit, or several of which the first is no zero
abbrev pub is_number : List ℕ → Bool
is_number [] = false
is_number (b ∷ []) = all_digits (b ∷ [])
is_number (b ∷ c ∷ bs) = ltb 48 b && all_digits (b ∷ c ∷ bs)

-- its value, where v is that of the digits before: each digit counts one, and those before it ten times more
abbrev pub value_from : ℕ → List ℕ → ℕ
value_from v [] = v
value_from v (b ∷ bs) = value_from (10 * v + (b - 48)) bs

-- what bytes between two spaces are read as
unfoldable pub item : List ℕ → Item
item bytes = cond (is_number bytes) (number (value_from 0 bytes)) (word bytes)

-- a byte before some pieces: one that separates begins a new piece, any other belongs to the first
abbrev pub ahead : Bool → ℕ → List (List ℕ) → List (List ℕ)
ahead true byte rest = [] ∷ rest
ahead false byte [] = (byte ∷ []) ∷ []
ahead false byte (piece ∷ rest) = (byte ∷ piece) ∷ rest

-- the pieces of a text that a byte separates: one more than it stands there
unfoldable pub pieces : ℕ → List ℕ → List (List ℕ)
pieces separator [] = [] ∷ []
pieces separator (byte ∷ bytes) = ahead (eqb byte separator) byte (pieces separator bytes)

-- the items of a line, between spaces
abbrev pub read_line : List ℕ → List Item
read_line line = map item (pieces 32 line)

-- the lines of a text, and last what stands behind the last line feed
unfoldable pub read_text : List ℕ → List (List Item)
read_text text = map read_line (pieces 10 text)

-- nothing, as it is read
abbrev pub nothing : List Item
nothing = word [] ∷ []

-- No two texts are read alike: what is read fixes every byte.
abbrev pub ReadOnce : Type 0
ReadOnce = (a b : List ℕ) → read_text a ≡ read_text b → a ≡ b
