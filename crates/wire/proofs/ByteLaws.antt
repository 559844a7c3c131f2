-- Bytes past the end read as 0.
use Prim.Native.Nat.{ℕ, ◌+◌, ◌≤◌}
use mathlib.Core.Path.{◌≡◌, sym}
use mathlib.Core.List.{List}
use lib.ListN.{length, get_or, get_or-eq_default}
use native.Mathlib.Omega.{arith}
use Rattle.wire.specs.Bytes.{le32}

pub past_end : (s : List ℕ) (at : ℕ) → length s ≤ at → 0 ≡ get_or s at 0
past_end s at h = sym (get_or-eq_default s 0 h)

pub word_past : (s : List ℕ) (at : ℕ) → length s ≤ at → 0 ≡ le32 s at
word_past s at h =
    rw (← past_end s at h, ← past_end s (at + 1) (omega arith), ← past_end s (at + 2) (omega arith), ← past_end s (at + 3) (omega arith))
