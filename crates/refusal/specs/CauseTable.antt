-- The paper's table of causes as data, which `number_of` and `place_of` have to be.
use Rattle.std.specs.Prelude.{ℕ, ◌≡◌, List, [], ◌∷◌}
use Rattle.refusal.specs.Causes.{number_of, place_of}
use Rattle.refusal.specs.declared.Cause.{Cause}
use Rattle.refusal.specs.declared.Cause.TheVariants.{TooShort, TaskCount, CoreCount, Length, Period, Budget, Hyperperiod, Buffer, Placement, CoreNumber, Overload, Slot, Charge, Cost, Affinity, NotPermitted, FirstByte, Filling, PairList, Pair, Circle, BusPeriod, Answer, LogRoom, Record}

-- A row of the table: a cause, its number, its place.
pub data CauseRow : Type 0 where
  cause : Cause → ℕ → ℕ → CauseRow

-- the table, where p is the first such task, slot, pair, answer or record; 0 where the paper names no place
abbrev pub cause_table : ℕ → List CauseRow
cause_table p =
    cause TooShort 1 0
    ∷ cause TaskCount 2 0
    ∷ cause CoreCount 3 0
    ∷ cause Length 4 0
    ∷ cause (Period p) 5 p
    ∷ cause (Budget p) 6 p
    ∷ cause (Hyperperiod p) 7 p
    ∷ cause Buffer 8 0
    ∷ cause (Placement p) 9 p
    ∷ cause CoreNumber 10 0
    ∷ cause Overload 11 0
    ∷ cause (Slot p) 12 p
    ∷ cause Charge 13 0
    ∷ cause (Cost p) 14 p
    ∷ cause (Affinity p) 15 p
    ∷ cause (NotPermitted p) 16 p
    ∷ cause FirstByte 17 0
    ∷ cause Filling 18 0
    ∷ cause PairList 19 0
    ∷ cause (Pair p) 20 p
    ∷ cause (Circle p) 21 p
    ∷ cause (BusPeriod p) 22 p
    ∷ cause (Answer p) 23 p
    ∷ cause LogRoom 24 0
    ∷ cause (Record p) 25 p
    ∷ []

-- Number and place of each row are those that the definitions give its cause.
abbrev pub Agrees : List CauseRow → Type 0
Agrees [] = Unit {0}
Agrees (cause c number place ∷ rows) = (number_of c ≡ number) × (place_of c ≡ place) × Agrees rows
