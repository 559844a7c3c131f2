-- The definitions are the paper's table, and the range of its numbers.
use Prim.Native.Nat.{ℕ, ◌≤◌}
use mathlib.Core.Path.{◌≡◌, refl, sym, ◌∙◌, ap}
use native.Mathlib.Omega.{arith}
use Rattle.refusal.specs.Causes.{number_of, place_of}
use Rattle.refusal.specs.CauseTable.{cause_table, Agrees}
use Rattle.refusal.specs.declared.Cause.{Cause}
use Rattle.refusal.specs.declared.Cause.TheVariants.{TooShort, TaskCount, CoreCount, Length, Period, Budget, Hyperperiod, Buffer, Placement, CoreNumber, Overload, Slot, Charge, Cost, Affinity, NotPermitted, FirstByte, Filling, PairList, Pair, Circle, BusPeriod, Answer, LogRoom, Record}

pub table_agrees : (p : ℕ) → Agrees (cause_table p)
table_agrees p = (refl, refl, (refl, refl, (refl, refl, (refl, refl, (refl, refl, (refl, refl, (refl, refl, (refl, refl, (refl, refl, (refl, refl, (refl, refl, (refl, refl, (refl, refl, (refl, refl, (refl, refl, (refl, refl, (refl, refl, (refl, refl, (refl, refl, (refl, refl, (refl, refl, (refl, refl, (refl, refl, (refl, refl, (refl, refl, tt)))))))))))))))))))))))))

pub number_range : (c : Cause) → (1 ≤ number_of c) × (number_of c ≤ 25)
number_range TooShort = (omega arith, omega arith)
number_range TaskCount = (omega arith, omega arith)
number_range CoreCount = (omega arith, omega arith)
number_range Length = (omega arith, omega arith)
number_range (Period task) = (omega arith, omega arith)
number_range (Budget task) = (omega arith, omega arith)
number_range (Hyperperiod task) = (omega arith, omega arith)
number_range Buffer = (omega arith, omega arith)
number_range (Placement task) = (omega arith, omega arith)
number_range CoreNumber = (omega arith, omega arith)
number_range Overload = (omega arith, omega arith)
number_range (Slot slot) = (omega arith, omega arith)
number_range Charge = (omega arith, omega arith)
number_range (Cost task) = (omega arith, omega arith)
number_range (Affinity task) = (omega arith, omega arith)
number_range (NotPermitted task) = (omega arith, omega arith)
number_range FirstByte = (omega arith, omega arith)
number_range Filling = (omega arith, omega arith)
number_range PairList = (omega arith, omega arith)
number_range (Pair pair) = (omega arith, omega arith)
number_range (Circle task) = (omega arith, omega arith)
number_range (BusPeriod task) = (omega arith, omega arith)
number_range (Answer answer) = (omega arith, omega arith)
number_range LogRoom = (omega arith, omega arith)
number_range (Record rec) = (omega arith, omega arith)

-- number and place go by the case of the cause
pub number_of_lem : {c d : Cause} {x : ℕ} → c ≡ d → x ≡ number_of d → x ≡ number_of c
number_of_lem e p = p ∙ ap number_of (sym e)

pub place_of_lem : {c d : Cause} {x : ℕ} → c ≡ d → x ≡ place_of d → x ≡ place_of c
place_of_lem e p = p ∙ ap place_of (sym e)
