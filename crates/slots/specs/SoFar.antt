-- What the pass of a tick keeps from slot to slot: the late task and the choice so far.
use Rattle.std.specs.Prelude.{ℕ, cond, ◌&&◌, ◌||◌, eqb, ltb}
use Rattle.edf.specs.declared.Slot.{Slot}
use Rattle.edf.specs.declared.Claim.{Claim}

-- the late task so far with slot number k, which is released: 0 is none so far
abbrev pub late_so_far : ℕ → ℕ → Slot → ℕ
late_so_far late k s = cond (eqb late 0 && ltb 0 s.remaining) k late

-- the choice so far with slot number k: it takes the choice's place if it owes ticks and its release is sooner; task 0 is none so far
abbrev pub choice_so_far : Claim → ℕ → Slot → Claim
choice_so_far best k s =
    cond (ltb 0 s.remaining && (eqb best.task 0 || ltb s.until best.deadline)) (record { task = k; deadline = s.until }) best
