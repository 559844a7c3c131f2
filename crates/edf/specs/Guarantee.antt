-- The tick guarantee: demand 3 after its first sentence, as one claim about a whole list of ticks; and what it rests on.
use Rattle.std.specs.Prelude.{ℕ, suc, ◌+◌, ◌*◌, ◌≤◌, ◌<◌, min, ◌≡◌, cond, List, [], ◌∷◌, map, eqb, length, get_or, take, drop, replicate}
use Rattle.numbers.specs.Rows.{entry}
use Rattle.numbers.specs.Sums.{sum_to}
use Rattle.edf.specs.declared.Slot.{Slot}
use Rattle.edf.specs.Tick.{TickAnswer, ticked}
use Rattle.edf.specs.Fresh.{Tasks, period, budget, core_of, first_release}
use Rattle.edf.specs.Earliest.{EachNamesEarliest}
use Rattle.edf.specs.Book.{claims_over, names}

-- the tasks that the answers name as run
abbrev pub runs : List TickAnswer → List ℕ
runs = map (λ a. a.run)

-- how many of some ticks a task received
abbrev pub count : ℕ → List ℕ → ℕ
count task [] = 0
count task (r ∷ rs) = cond (eqb task r) 1 0 + count task rs

-- the tick at which period number p of the task at k begins: p periods after its first release
abbrev pub period_start : Tasks → ℕ → ℕ → ℕ
period_start tasks k p = first_release tasks k + p * period tasks k

-- what the task received in that period: of the answers from its start on, one period long, those that name it
abbrev pub received_in : Tasks → List TickAnswer → ℕ → ℕ → ℕ
received_in tasks answered k p = count (suc k) (take (period tasks k) (drop (period_start tasks k p) (runs answered)))

-- what it asked for: its request in the call of the period's first tick
abbrev pub asked_in : Tasks → List (List ℕ) → ℕ → ℕ → ℕ
asked_in tasks ticks k p = entry (get_or ticks (period_start tasks k p) []) k

-- what it is owed: the smaller of that and its budget, and the charge if it asked for any
abbrev pub owed_in : Tasks → List (List ℕ) → ℕ → ℕ → ℕ
owed_in tasks ticks k p = min (asked_in tasks ticks k p) (budget tasks k) + cond (eqb (asked_in tasks ticks k p) 0) 0 tasks.charge

-- The claim about one list of ticks from the record with this charge and these slots. The task at k has number k + 1. Its period number p is
-- complete once the ticks up to the start of the next were made, and begun once the one at its own start was.
pub record TickGuarantee (tasks : Tasks) (core charge : ℕ) (slots : List Slot) (ticks : List (List ℕ)) : Type 0 where
  -- Whatever any task asks for at each tick: no tick is refused
  pub none_refused : map (λ a. a.refusal) (ticked charge slots ticks) ≡ replicate (length ticks) 0
  -- or reports a late task,
  pub none-late : map (λ a. a.late) (ticked charge slots ticks) ≡ replicate (length ticks) 0
  -- and each runs the task that earliest deadline first names.
  pub earliest-first : runs (ticked charge slots ticks) ≡ names tasks core ticks
  -- Earliest is of the book's claims at that tick: none has a sooner deadline, and none with the same a lower number.
  pub each-earliest : EachNamesEarliest (claims_over tasks core ticks) (runs (ticked charge slots ticks))
  -- After the list, what a task on that core received in each of its complete periods is what it is owed for it.
  pub complete : (k p : ℕ) → k < tasks.n → core_of tasks k ≡ core → period_start tasks k (p + 1) ≤ length ticks
      → received_in tasks (ticked charge slots ticks) k p ≡ owed_in tasks ticks k p
  -- Within an unfinished period it never exceeds that.
  pub unfinished : (k p : ℕ) → k < tasks.n → core_of tasks k ≡ core → period_start tasks k p < length ticks
      → received_in tasks (ticked charge slots ticks) k p ≤ owed_in tasks ticks k p

-- The theorem rests on three premises. The first is the limits of a table, as far as they matter here. A demand is the paper's weight:
-- budget and charge times hyperperiod H divided by the period, exactly.
pub record WithinLimits (H : ℕ) (demand : ℕ → ℕ) (tasks : Tasks) : Type 0 where
  pub tasks_most : tasks.n ≤ 16
  pub charge_most : tasks.charge ≤ 9
  pub hyperperiod_least : 1 ≤ H
  pub period_least : (k : ℕ) → k < tasks.n → 1 ≤ period tasks k
  pub period_most : (k : ℕ) → k < tasks.n → period tasks k ≤ 10000
  pub budget_least : (k : ℕ) → k < tasks.n → 1 ≤ budget tasks k
  pub budget_most : (k : ℕ) → k < tasks.n → budget tasks k + tasks.charge ≤ period tasks k
  pub demand_exact : (k : ℕ) → k < tasks.n → demand k * period tasks k ≡ (budget tasks k + tasks.charge) * H

-- The core is not overloaded: its exact load, the sum of the demands of the tasks on it, is at most the hyperperiod.
abbrev pub LoadFits : ℕ → (ℕ → ℕ) → Tasks → ℕ → Type 0
LoadFits H demand tasks core = sum_to (λ k. cond (eqb (core_of tasks k) core) (demand k) 0) tasks.n ≤ H

-- Each task of the core is first released within its first period.
abbrev pub ReleasedSoon : Tasks → ℕ → Type 0
ReleasedSoon tasks core = (k : ℕ) → k < tasks.n → core_of tasks k ≡ core → first_release tasks k < period tasks k
