-- Rows h and i of the paper: row c's tasks on core 1, by the book; the guarantee of that core; and a board with a charge and first releases.
use Prim.Native.Nat.{ℕ, zero, suc, ◌+◌, ◌*◌, ◌≤◌, ◌<◌}
use mathlib.Core.Path.{◌≡◌, refl}
use mathlib.Core.List.{List, [], ◌∷◌, map}
use native.Mathlib.Omega.{arith}
use lib.Dec.{lit≤}
use lib.ListN.{replicate}
use Rattle.numbers.specs.First.{first, first_from}
use Rattle.numbers.specs.Rows.{row, tab, up_to, entry}
use Rattle.numbers.specs.Sums.{sum_to}
use Rattle.edf.specs.declared.Slot.{Slot}
use Rattle.edf.specs.Slots.{slot_test, first_slot}
use Rattle.edf.specs.Tick.{owed_for, release, release_all, chosen, advance_all, stepped, refused_tick, tick, ticked}
use Rattle.edf.specs.Fresh.{Tasks, period, budget, first_release, fresh_slot, fresh_slots}
use Rattle.edf.specs.Book.{book, names}
use Rattle.edf.specs.Guarantee.{runs, owed_in, TickGuarantee}
use Rattle.edf.proofs.GuaranteeLaws.{tick_guarantee}

row_c : Tasks
row_c = record { n = 3; periods = 2 ∷ 3 ∷ 6 ∷ []; budgets = 1 ∷ 1 ∷ 1 ∷ []; placement = 1 ∷ 1 ∷ 1 ∷ []; charge = 0; first_releases = [] }

full : List ℕ
full = replicate 16 1

-- six ticks of full requests, and six in which task 1 asks for nothing at tick 2
ticks_h : List (List ℕ)
ticks_h = replicate 6 full

ticks_i : List (List ℕ)
ticks_i = full ∷ full ∷ (0 ∷ replicate 15 1) ∷ full ∷ full ∷ full ∷ []

row_h_book : names row_c 1 ticks_h ≡ 1 ∷ 2 ∷ 1 ∷ 2 ∷ 1 ∷ 3 ∷ []
unfolding row_c ticks_h full owed_for book
row_h_book = refl

row_i_book : names row_c 1 ticks_i ≡ 1 ∷ 2 ∷ 3 ∷ 2 ∷ 1 ∷ 0 ∷ []
unfolding row_c ticks_i full owed_for book
row_i_book = refl

-- The core of row c is exactly full, and has the guarantee for every list of ticks.
demand_c : ℕ → ℕ
demand_c k = entry (3 ∷ 2 ∷ 1 ∷ []) k

below-three : (P : ℕ → Type 0) → P 0 → P 1 → P 2 → (k : ℕ) → k < 3 → P k
below-three P a b c zero h = a
below-three P a b c (suc zero) h = b
below-three P a b c (suc (suc zero)) h = c
below-three P a b c (suc (suc (suc k))) h = absurd (omega arith)

row-c : (ticks : List (List ℕ)) → TickGuarantee row_c 1 0 (fresh_slots row_c 1) ticks
unfolding row_c demand_c sum_to
row-c = tick_guarantee 6 demand_c row_c 1 (record {
  tasks_most = lit≤ tt;
  charge_most = lit≤ tt;
  hyperperiod_least = lit≤ tt;
  period_least = below-three (λ k. 1 ≤ period row_c k) (lit≤ tt) (lit≤ tt) (lit≤ tt);
  period_most = below-three (λ k. period row_c k ≤ 10000) (lit≤ tt) (lit≤ tt) (lit≤ tt);
  budget_least = below-three (λ k. 1 ≤ budget row_c k) (lit≤ tt) (lit≤ tt) (lit≤ tt);
  budget_most = below-three (λ k. budget row_c k + row_c.charge ≤ period row_c k) (lit≤ tt) (lit≤ tt) (lit≤ tt);
  demand_exact = below-three (λ k. demand_c k * period row_c k ≡ (budget row_c k + row_c.charge) * 6) refl refl refl;
}) (lit≤ tt) (λ k b _. below-three (λ j. first_release row_c j < period row_c j) (lit≤ tt) (lit≤ tt) (lit≤ tt) k b) 0 refl (fresh_slots row_c 1) refl

-- With charge 2 and budget 3 a request of 0 owes nothing, one of 1 three ticks, and one of 3 or more five.
owed_charged : map (owed_for 2 3) (0 ∷ 1 ∷ 3 ∷ 4 ∷ 100 ∷ []) ≡ 0 ∷ 3 ∷ 5 ∷ 5 ∷ 5 ∷ []
unfolding owed_for
owed_charged = refl

-- With charge 9 slot 1 owes all that it may, and slot 2 cannot be: its budget and the charge are above its period. A charge of 10 is refused
-- with place 0, whatever the slots.
wrong_slots : List Slot
wrong_slots = record { period = 12; budget = 3; until = 0; remaining = 12 } ∷ record { period = 12; budget = 4; until = 0; remaining = 0 } ∷ []

refusals : (((tick 10 wrong_slots full).refusal ≡ 12) × ((tick 10 wrong_slots full).place ≡ 0))
    × (((tick 9 wrong_slots full).refusal ≡ 12) × ((tick 9 wrong_slots full).place ≡ 2))
unfolding wrong_slots full first first_from slot_test first_slot owed_for release release_all chosen advance_all stepped refused_tick tick
refusals = ((refl, refl), (refl, refl))

-- With charge 1 a request of 1 owes two ticks, one of 7 no more than its budget of 1 does, and one of 0 none; with first releases at ticks 1 and 2
-- nothing runs before, and a period of 5 begins at 2, 7, ..
charged : Tasks
charged = record { n = 2; periods = 4 ∷ 5 ∷ []; budgets = 1 ∷ 1 ∷ []; placement = 1 ∷ 1 ∷ []; charge = 1; first_releases = 1 ∷ 2 ∷ [] }

ticks_j : List (List ℕ)
ticks_j = replicate 8 (1 ∷ 0 ∷ [])

ticks_g : List (List ℕ)
ticks_g = replicate 8 (7 ∷ 0 ∷ [])

ticks_k : List (List ℕ)
ticks_k = replicate 9 full

silent_runs : runs (ticked 1 (fresh_slots charged 1) ticks_j) ≡ 0 ∷ 1 ∷ 1 ∷ 0 ∷ 0 ∷ 1 ∷ 1 ∷ 0 ∷ []
unfolding charged ticks_j full first first_from slot_test first_slot owed_for release release_all chosen advance_all stepped refused_tick tick fresh_slot fresh_slots row tab up_to
silent_runs = refl

greedy_runs : runs (ticked 1 (fresh_slots charged 1) ticks_g) ≡ 0 ∷ 1 ∷ 1 ∷ 0 ∷ 0 ∷ 1 ∷ 1 ∷ 0 ∷ []
unfolding charged ticks_g full first first_from slot_test first_slot owed_for release release_all chosen advance_all stepped refused_tick tick fresh_slot fresh_slots row tab up_to
greedy_runs = refl

late-runs : runs (ticked 1 (fresh_slots charged 1) ticks_k) ≡ 0 ∷ 1 ∷ 1 ∷ 2 ∷ 2 ∷ 1 ∷ 1 ∷ 2 ∷ 2 ∷ []
unfolding charged ticks_k full first first_from slot_test first_slot owed_for release release_all chosen advance_all stepped refused_tick tick fresh_slot fresh_slots row tab up_to
late-runs = refl

late-names : names charged 1 ticks_k ≡ 0 ∷ 1 ∷ 1 ∷ 2 ∷ 2 ∷ 1 ∷ 1 ∷ 2 ∷ 2 ∷ []
unfolding charged ticks_k full owed_for book
late-names = refl

late_owed : owed_in charged ticks_k 1 1 ≡ 2
unfolding charged ticks_k full
late_owed = refl
