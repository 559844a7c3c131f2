-- An accepted tick of any record, and a refused one, in plain words: nothing here is taken from the definition of a tick.
use Rattle.std.specs.Prelude.{ℕ, suc, ◌+◌, ◌-◌, ◌≤◌, ◌<◌, min, ◌≡◌, ◌⊎◌, ◌↔◌, ◌≢◌, List, length, get_or}
use Rattle.numbers.specs.First.{FirstAt}
use Rattle.edf.specs.declared.Slot.{Slot}
use Rattle.edf.specs.Slots.{slot_at}
use Rattle.runner.specs.declared.Core.{Core}
use Rattle.runner.specs.declared.Ticked.{Ticked}

-- a task's period begins at this tick
abbrev pub PeriodBegins : Slot → Type 0
PeriodBegins s = (s.period ≢ 0) × (s.until ≡ 0)

-- and ticks of the period before are still owed
abbrev pub StillOwes : Slot → Type 0
StillOwes s = PeriodBegins s × (0 < s.remaining)

-- A slot s and the slot t that it is released to: the next release is a period away, and what is owed is the smaller of request and budget,
-- and the charge if the request is not 0, whatever s owed.
pub record PlainRelease (charge asked : ℕ) (s t : Slot) : Type 0 where
  pub period : t.period ≡ s.period
  pub budget : t.budget ≡ s.budget
  pub until : t.until ≡ s.period
  pub unasked : asked ≡ 0 → t.remaining ≡ 0
  pub asked_for : asked ≢ 0 → t.remaining ≡ min asked s.budget + charge

-- Of some slots the one at i owes ticks, none that does is released sooner, and none with the same release has a lower number.
pub record PlainChoice (ready : List Slot) (i : ℕ) : Type 0 where
  pub below : i < 16
  pub owes : 0 < (slot_at ready i).remaining
  pub soonest : (j : ℕ) → j < 16 → 0 < (slot_at ready j).remaining → (slot_at ready i).until ≤ (slot_at ready j).until
  pub lowest : (j : ℕ) → j < 16 → 0 < (slot_at ready j).remaining → (slot_at ready j).until ≡ (slot_at ready i).until → i ≤ j

-- A slot s, which may be the one that runs, and the slot t that is handed back for it.
pub record PlainNext (runs : Type 0) (s t : Slot) : Type 0 where
  pub period : t.period ≡ s.period
  pub budget : t.budget ≡ s.budget
  pub until : s.period ≢ 0 → t.until ≡ s.until - 1
  pub until_empty : s.period ≡ 0 → t.until ≡ s.until
  pub runs-one : runs → t.remaining ≡ s.remaining - 1
  pub waits : (runs → ⊥) → t.remaining ≡ s.remaining

-- What an accepted tick of a record with this charge and these slots hands back.
pub record PlainTick (charge : ℕ) (slots : List Slot) (requests : List ℕ) (r : Ticked) : Type 0 where
  -- The late task is the first whose period begins with ticks still owed; 0 if there is none.
  pub late : ((r.late ≡ 0) × ((i : ℕ) → i < 16 → StillOwes (slot_at slots i) → ⊥)) ⊎ FirstAt (λ i. StillOwes (slot_at slots i)) 16 r.late
  -- There are sixteen slots after the releases: each whose period begins is released, any other is as it was.
  pub ready : List Slot
  pub ready-sixteen : length ready ≡ 16
  pub released : (i : ℕ) → i < 16 → PeriodBegins (slot_at slots i) → PlainRelease charge (get_or requests i 0) (slot_at slots i) (slot_at ready i)
  pub kept : (i : ℕ) → i < 16 → (PeriodBegins (slot_at slots i) → ⊥) → slot_at ready i ≡ slot_at slots i
  -- The tick is idle exactly if none of them owes ticks; otherwise the task run is the one to choose.
  pub idle : (r.run ≡ 0) ↔ ((i : ℕ) → i < 16 → (slot_at ready i).remaining ≡ 0)
  pub runs : (i : ℕ) → r.run ≡ suc i → PlainChoice ready i
  -- The record handed back has the charge as it was, and sixteen slots too: the one that ran owes one less, and every occupied slot's release
  -- is one tick nearer.
  pub charge_kept : r.core.charge ≡ charge
  pub next : (i : ℕ) → i < 16 → PlainNext (suc i ≡ r.run) (slot_at ready i) (slot_at r.core.slots i)
  pub next_sixteen : length r.core.slots ≡ 16

-- What a refused tick hands back: the record as it was, no task run and no late task.
pub record PlainRefusal (core : Core) (r : Ticked) : Type 0 where
  pub unchanged : r.core ≡ core
  pub runs_none : r.run ≡ 0
  pub late-none : r.late ≡ 0
