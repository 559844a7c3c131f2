-- What a task is owed, as its program makes it.
use Prim.Native.Nat.{ℕ, ◌+◌, min}
use mathlib.Core.Path.{◌≡◌}
use native.Mathlib.Omega.{arith}
use native.Mathlib.Nat.{min-le_left}
use borrow.Author.Tests.{eq-eqb, ne_eqb}
use Rattle.edf.specs.Tick.{owed_for}

-- What a task is owed, by the test of its request.
module _ (charge budget : ℕ) {asked : ℕ} where
  pub owed_none : asked ≡ 0 → 0 ≡ owed_for charge budget asked
  unfolding owed_for
  owed_none e = rw (eq-eqb asked 0 e) (omega (arith, min-le_left asked budget))

  pub owed_some : {least : ℕ} → (asked ≡ 0 → ⊥) → least ≡ min asked budget → least + charge ≡ owed_for charge budget asked
  unfolding owed_for
  owed_some n e = rw (ne_eqb asked 0 n, e)
