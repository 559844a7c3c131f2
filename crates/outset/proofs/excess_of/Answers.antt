-- Four cores of at most a million fit; the difference is that of natural numbers.
use lib.Dec.{lit<}
use native.Mathlib.Nat.{lt_of_le_of_lt, mul-le-mul}
use Rattle.outset.proofs.excess_of.Goals as goal

pub overflow_mul-room : goal.overflow_mul-room
overflow_mul-room c = record { fits = lt_of_le_of_lt (mul-le-mul c.requires.0 c.requires.1) (lit< tt) }
