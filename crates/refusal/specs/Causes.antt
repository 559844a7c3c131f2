-- The paper's number and place of each cause of refusal, and of an outcome.
use Rattle.std.specs.Prelude.{ℕ, Ok, Err}
use Rattle.refusal.specs.declared.Cause.{Cause}
use Rattle.refusal.specs.declared.Cause.TheVariants.{TooShort, TaskCount, CoreCount, Length, Period, Budget, Hyperperiod, Buffer, Placement, CoreNumber, Overload, Slot, Charge, Cost, Affinity, NotPermitted, FirstByte, Filling, PairList, Pair, Circle, BusPeriod, Answer, LogRoom, Record}
use Rattle.refusal.specs.Outcome.{Outcome}

-- the number of a cause
abbrev pub number_of : Cause → ℕ
number_of TooShort = 1
number_of TaskCount = 2
number_of CoreCount = 3
number_of Length = 4
number_of (Period task) = 5
number_of (Budget task) = 6
number_of (Hyperperiod task) = 7
number_of Buffer = 8
number_of (Placement task) = 9
number_of CoreNumber = 10
number_of Overload = 11
number_of (Slot slot) = 12
number_of Charge = 13
number_of (Cost task) = 14
number_of (Affinity task) = 15
number_of (NotPermitted task) = 16
number_of FirstByte = 17
number_of Filling = 18
number_of PairList = 19
number_of (Pair pair) = 20
number_of (Circle task) = 21
number_of (BusPeriod task) = 22
number_of (Answer answer) = 23
number_of LogRoom = 24
number_of (Record rec) = 25

-- its place, the first such task, slot, pair, answer or record counted from 1; 0 where the paper names none
abbrev pub place_of : Cause → ℕ
place_of TooShort = 0
place_of TaskCount = 0
place_of CoreCount = 0
place_of Length = 0
place_of (Period task) = task
place_of (Budget task) = task
place_of (Hyperperiod task) = task
place_of Buffer = 0
place_of (Placement task) = task
place_of CoreNumber = 0
place_of Overload = 0
place_of (Slot slot) = slot
place_of Charge = 0
place_of (Cost task) = task
place_of (Affinity task) = task
place_of (NotPermitted task) = task
place_of FirstByte = 0
place_of Filling = 0
place_of PairList = 0
place_of (Pair pair) = pair
place_of (Circle task) = task
place_of (BusPeriod task) = task
place_of (Answer answer) = answer
place_of LogRoom = 0
place_of (Record rec) = rec

-- number and place of an outcome: 0 and 0 where the call is accepted
abbrev pub number_in : Outcome → ℕ
number_in (Ok _) = 0
number_in (Err cause) = number_of cause

abbrev pub place_in : Outcome → ℕ
place_in (Ok _) = 0
place_in (Err cause) = place_of cause
