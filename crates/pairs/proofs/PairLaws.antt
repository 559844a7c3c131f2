-- The step of a program that looks up the period of a task.
use Prim.Native.Nat.{ℕ, zero, suc, ◌-◌}
use mathlib.Core.Path.{◌≡◌, refl}
use mathlib.Core.List.{List}
use mathlib.Core.Logic.{◌≢◌}
use native.Mathlib.Omega.{arith}
use Rattle.numbers.specs.Rows.{entry}
use Rattle.pairs.specs.Pairs.{period_of}

pub period-here : (periods : List ℕ) (t : ℕ) {x : ℕ} → t ≢ 0 → x ≡ entry periods (t - 1) → x ≡ period_of periods t
unfolding period_of
period-here periods zero d e = absurd (d refl)
period-here periods (suc k) d e = let one : suc k - 1 ≡ k = omega arith in rw one at e
