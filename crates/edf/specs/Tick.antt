-- One tick of a core on a board with a switch charge: the paper's three steps and its refusal 12; and a list of ticks.
use Rattle.std.specs.Prelude.{ℕ, suc, ◌+◌, ◌-◌, min, Bool, cond, ◌&&◌, List, [], ◌∷◌, ltb, eqb, get_or}
use Rattle.edf.specs.declared.Slot.{Slot}
use Rattle.edf.specs.declared.Claim.{Claim}
use Rattle.edf.specs.Slots.{occupied, first_slot, each, first_wrong}
use Rattle.edf.specs.Earliest.{cons_if, earliest}

-- the request of task number k among the sixteen of a tick
abbrev pub request : List ℕ → ℕ → ℕ
request requests k = get_or requests (k - 1) 0

-- what a task is owed for a period: the smaller of its request and its budget, and the charge if it asks for any
unfoldable pub owed_for : ℕ → ℕ → ℕ → ℕ
owed_for charge budget asked = min asked budget + cond (eqb asked 0) 0 charge

-- Step 1. An occupied slot whose ticks until release are 0 is released; if it still owes ticks, it is late.
abbrev pub due : Slot → Bool
due s = occupied s && eqb s.until 0

abbrev pub late : Slot → Bool
late s = due s && ltb 0 s.remaining

-- the lowest late number; 0 if no slot is late
abbrev pub first_late : List Slot → ℕ
first_late slots = first_slot late slots

-- a released slot owes what it is owed for the new period, whatever it owed before, and its next release is a period away
abbrev pub released : Slot → ℕ → Slot
released s owed = record { period = s.period; budget = s.budget; until = s.period; remaining = owed }

module _ (charge : ℕ) where
  abbrev pub release_slot : ℕ → Slot → Slot
  release_slot asked s = cond (due s) (released s (owed_for charge s.budget asked)) s

  unfoldable pub release : List ℕ → ℕ → Slot → Slot
  release requests k s = release_slot (request requests k) s

  unfoldable pub release_all : List ℕ → List Slot → List Slot
  release_all requests slots = each (release requests) slots

-- Step 2. Among the slots that owe ticks, the one with the fewest ticks until release runs, and owes one less.
abbrev pub claims_from : ℕ → List Slot → List Claim
claims_from k [] = []
claims_from k (s ∷ slots) = cons_if (ltb 0 s.remaining) (record { task = k; deadline = s.until }) (claims_from (suc k) slots)

unfoldable pub chosen : List Slot → ℕ
chosen slots = earliest (claims_from 1 slots)

-- the slot that runs owes one less
abbrev pub ran : Slot → Slot
ran s = record { period = s.period; budget = s.budget; until = s.until; remaining = s.remaining - 1 }

abbrev pub run : ℕ → ℕ → Slot → Slot
run task k s = cond (eqb k task) (ran s) s

-- Step 3. Every occupied slot's ticks until release fall by one.
abbrev pub advanced : Slot → Slot
advanced s = record { period = s.period; budget = s.budget; until = s.until - 1; remaining = s.remaining }

abbrev pub advance : ℕ → Slot → Slot
advance k s = cond (occupied s) (advanced s) s

-- steps 2 and 3, where task number `task` runs
unfoldable pub advance_all : ℕ → List Slot → List Slot
advance_all task slots = each advance (each (run task) slots)

-- What a tick hands back: the number and place of a refusal, 0 and 0 if there is none; the next record, which is its charge and its slots;
-- the task run, 0 for idle; the late task, 0 for none.
pub record TickAnswer : Type 0 where
  pub refusal : ℕ
  pub place : ℕ
  pub charge : ℕ
  pub slots : List Slot
  pub run : ℕ
  pub late : ℕ

-- number 12, with the record as it was
unfoldable pub refused_tick : ℕ → List Slot → ℕ → TickAnswer
refused_tick charge slots place = record { refusal = 12; place = place; charge = charge; slots = slots; run = 0; late = 0 }

module _ (charge : ℕ) where
  -- the three steps in order
  unfoldable pub stepped : List Slot → List ℕ → TickAnswer
  stepped slots requests =
      let ready : List Slot = release_all charge requests slots in
      record { refusal = 0; place = 0; charge = charge; slots = advance_all (chosen ready) ready; run = chosen ready; late = first_late slots }

  -- A charge above 9 is refused with place 0, before any slot is looked at; then the first slot that cannot be is refused.
  unfoldable pub tick : List Slot → List ℕ → TickAnswer
  tick slots requests =
      cond (ltb 9 charge) (refused_tick charge slots 0)
      (cond (eqb (first_wrong charge slots) 0) (stepped slots requests) (refused_tick charge slots (first_wrong charge slots)))

-- A list of ticks, the first on the given record and each later one on the record that the tick before handed back.
abbrev pub ticked : ℕ → List Slot → List (List ℕ) → List TickAnswer
ticked charge slots [] = []
ticked charge slots (requests ∷ rest) =
    tick charge slots requests ∷ ticked (tick charge slots requests).charge (tick charge slots requests).slots rest
