-- What a text shows, and what it means to append to it.
use Rattle.std.specs.Prelude.{ℕ, ◌≤◌, ◌≡◌, List, ◌++◌, length, take}
use Rattle.text.specs.declared.Text.{Text}

-- the bytes that are shown
unfoldable pub shown : Text → List ℕ
shown t = take t.length t.bytes

-- as much of a list as a text holds
unfoldable pub clip : List ℕ → List ℕ
clip l = take 2560 l

-- The text r is t with a piece after it, as far as that fits; the piece has at most so many bytes.
pub record Appended (t : Text) (piece : List ℕ) (most : ℕ) (r : Text) : Type 0 where
  pub is : shown r ≡ clip (shown t ++ piece)
  pub few : length piece ≤ most
