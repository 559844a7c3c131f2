-- The sixteen slots of a core record, and the slots that cannot be on a board with a switch charge.
use Rattle.std.specs.Prelude.{ℕ, suc, ◌+◌, ◌≤◌, ◌<◌, ◌≡◌, ◌⊎◌, Bool, not, ◌&&◌, ◌||◌, List, [], ◌∷◌, ltb, leb, eqb, get_or}
use Rattle.numbers.specs.First.{first}
use Rattle.edf.specs.declared.Slot.{Slot}

-- a slot of zeros: no task has it
abbrev pub empty_slot : Slot
empty_slot = record { period = 0; budget = 0; until = 0; remaining = 0 }

-- a slot is occupied if its period is not 0
abbrev pub occupied : Slot → Bool
occupied s = not (eqb s.period 0)

-- the slot at index i: slot number i + 1
abbrev pub slot_at : List Slot → ℕ → Slot
slot_at slots i = get_or slots i empty_slot

-- a test of the slot at index i
unfoldable pub slot_test : (Slot → Bool) → List Slot → ℕ → Bool
slot_test test slots i = test (slot_at slots i)

-- the number of the first slot of which a test holds; 0 if there is none
unfoldable pub first_slot : (Slot → Bool) → List Slot → ℕ
first_slot test slots = first (slot_test test slots) 16

-- every slot changed by a rule that knows its number; the numbers begin at k
abbrev pub each_from : ℕ → (ℕ → Slot → Slot) → List Slot → List Slot
each_from k f [] = []
each_from k f (s ∷ slots) = f k s ∷ each_from (suc k) f slots

abbrev pub each : (ℕ → Slot → Slot) → List Slot → List Slot
each f slots = each_from 1 f slots

-- `charge` is the paper's charge; the field's word is switch cost. A task that asks for any ticks in a period is owed it beside them.
module _ (charge : ℕ) where
  -- a slot that cannot be: it has period 0 and another field that is not 0, or it is occupied and has a period above 10,000,
  -- a budget of 0 or, with the charge, above the period, a release not within the period, or more ticks owed than its budget and the charge
  abbrev pub cannot_be : Slot → Bool
  cannot_be s =
      eqb s.period 0 && (not (eqb s.budget 0) || not (eqb s.until 0) || not (eqb s.remaining 0))
      || occupied s
      && (ltb 10000 s.period || eqb s.budget 0 || ltb s.period (s.budget + charge) || leb s.period s.until || ltb (s.budget + charge) s.remaining)

  -- the number of the first slot that cannot be; 0 if there is none
  abbrev pub first_wrong : List Slot → ℕ
  first_wrong slots = first_slot cannot_be slots

  -- The same as a statement: what an occupied slot has to be,
  pub record InUse (s : Slot) : Type 0 where
    pub period_in : (1 ≤ s.period) × (s.period ≤ 10000)
    pub budget_in : (1 ≤ s.budget) × (s.budget + charge ≤ s.period)
    pub until_in : s.until < s.period
    pub remaining_in : s.remaining ≤ s.budget + charge

  -- and any slot: all zeros, or in use.
  abbrev pub CanBe : Slot → Type 0
  CanBe s = (s ≡ empty_slot) ⊎ InUse s
