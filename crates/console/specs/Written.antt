-- What the output took of the bytes that a text shows.
use Rattle.std.specs.Prelude.{ℕ, ◌≤◌, ◌≡◌, List, eqb, length, take}
use Rattle.std.specs.Io.KnownBytes.{Appends}
use Rattle.std.specs.declared.option.Option.{Option}
use Rattle.console.specs.declared.Written.{Written}

-- No more are counted than there are, and the answer is whole exactly if all are.
pub record Took (bytes : List ℕ) (r : Written) : Type 0 where
  pub most : r.taken ≤ length bytes
  pub all : r.whole ≡ eqb r.taken (length bytes)

-- Known bytes grow by a front of some bytes.
abbrev pub AppendsFront : Option (List ℕ) → Option (List ℕ) → List ℕ → Type 0
AppendsFront old new bytes = (k : ℕ) × Appends old new (take k bytes)
