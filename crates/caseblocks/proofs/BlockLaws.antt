-- Laws of the blocks.
use Prim.Native.Nat.{ℕ, ◌+◌, ◌*◌}
use mathlib.Core.Path.{◌≡◌}
use mathlib.Core.List.{List}
use Rattle.edf.specs.declared.Slot.{Slot}
use Rattle.caseblocks.specs.Blocks.{slot_in}
use Rattle.wire.specs.Bytes.{le32}

-- a slot's four numbers
pub slot_read : (s : List ℕ) (k : ℕ) {p b u o : ℕ} → p ≡ le32 s (16 * k) → b ≡ le32 s (16 * k + 4) → u ≡ le32 s (16 * k + 8) → o ≡ le32 s (16 * k + 12)
    → ◌≡◌ {A = Slot} (record { period = p; budget = b; until = u; remaining = o }) (slot_in s k)
unfolding slot_in
slot_read s k e f g h = λ i. record { period = e i; budget = f i; until = g i; remaining = h i }
