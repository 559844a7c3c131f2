-- The steps of the loop that sums the tasks that ticks name.
use Prim.Native.Nat.{ℕ, zero, suc, ◌+◌, ◌-◌, ◌%◌, ◌≤◌, ◌<◌}
use mathlib.Core.Path.{◌≡◌, refl, sym, ◌∙◌, ap}
use mathlib.Core.List.{List, ◌∷◌}
use lib.ListN.{take, replicate}
use native.Mathlib.Omega.{arith}
use native.Mathlib.Nat.{mod-lt}
use borrow.Author.Tests.{lt-ltb, le-ltb}
use Rattle.affinity.specs.Permitted.{every_core}
use Rattle.oldform.specs.Form.{task_count, core_count, every_affinity}
use Rattle.oldform.specs.Limits.{beside}
use Rattle.edf.specs.Tick.{TickAnswer, tick}
use Rattle.runner.specs.declared.Core.{Core}
use Rattle.runner.specs.Answers.{tick_answer}
use Rattle.start.specs.Starts.{start_of}
use Rattle.runner.specs.declared.Ticked.{Ticked}
use Rattle.start.specs.declared.Started.{Started}
use Rattle.bench_entry.specs.Ticks.{full, plus, sum_of_tasks, bench_sum}

-- a sum is within 32 bits
pub plus_small : (sum task : ℕ) {next : ℕ} → next ≡ plus sum task → next < 4294967296
plus_small sum task e = rw e (mod-lt (sum + task % 65536) (omega arith))

-- The sum so far and the record now give what is still to come.
pub record Summing (start : Core) (ticks : ℕ) (requests : List ℕ) (now : Core) (sum left : ℕ) : Type 0 where
  pub asks : requests ≡ full
  pub small : sum < 4294967296
  pub is : sum_of_tasks sum now.charge now.slots left ≡ sum_of_tasks 0 start.charge start.slots ticks

pub sum_start : (start : Core) (ticks : ℕ) (requests : List ℕ) → requests ≡ full → Summing start ticks requests start 0 ticks
sum_start start ticks requests e = record { asks = e; small = omega arith; is = refl }

module _ {start : Core} {ticks : ℕ} {requests : List ℕ} {now : Core} {sum left : ℕ} (s : Summing start ticks requests now sum left) where
  -- what is still to come after one more tick
  abbrev later : TickAnswer → ℕ → ℕ
  later a k = sum_of_tasks (plus (plus sum a.run) a.late) a.charge a.slots k

  sum_step : (k : ℕ) → left ≡ suc k → later (tick now.charge now.slots full) k ≡ sum_of_tasks 0 start.charge start.slots ticks
  unfolding sum_of_tasks
  sum_step k e = sym (ap (sum_of_tasks sum now.charge now.slots) e) ∙ s.is

  pub sum_next : (t : Ticked) {one next : ℕ} → 0 < left → tick_answer t ≡ tick now.charge now.slots requests → one ≡ plus sum t.run
      → next ≡ plus one t.late → Summing start ticks requests t.core next (left - 1)
  unfolding tick_answer
  sum_next t {one} {next} h w p q =
      let a : tick_answer t ≡ tick now.charge now.slots full = w ∙ ap (tick now.charge now.slots) s.asks in
      let e : next ≡ plus (plus sum t.run) t.late = q ∙ ap (λ x. plus x t.late) p in
      record {
        asks = s.asks;
        small = plus_small one t.late q;
        is =
            ap (λ x. sum_of_tasks x t.core.charge t.core.slots (left - 1)) e
            ∙ ap (λ b. later b (left - 1)) a
            ∙ sum_step (left - 1) (omega arith);
      }

  pub sum_done : left ≤ 0 → sum ≡ sum_of_tasks 0 start.charge start.slots ticks
  unfolding sum_of_tasks
  sum_done h = let e : left ≡ 0 = omega arith in ap (sum_of_tasks sum now.charge now.slots) (sym e) ∙ s.is

pub bench_many : (table : List ℕ) (charge ticks : ℕ) {b n : ℕ} → b ≡ task_count table → n ≡ b → 16 < n → 0 ≡ bench_sum table charge ticks
unfolding bench_sum
bench_many table charge ticks e i h = rw (lt-ltb 16 (task_count table) (omega arith))

-- the front of a row of equal entries
front_equal : (n k x : ℕ) → n ≤ k → take n (replicate k x) ≡ replicate n x
front_equal zero k x h = refl
front_equal (suc n) zero x h = absurd (omega arith)
front_equal (suc n) (suc k) x h = ap (λ (l : List ℕ). x ∷ l) (front_equal n k x (omega arith))

pub bench_few : (table : List ℕ) (charge ticks : ℕ) {b n c m byte r : ℕ} (started : Started) → b ≡ task_count table → n ≡ b → n ≤ 16
    → c ≡ core_count table → m ≡ c → byte ≡ every_core m → started ≡ start_of (beside table charge (take n (replicate 16 byte))) (take n (replicate 16 1)) 1
    → r ≡ sum_of_tasks 0 started.core.charge started.core.slots ticks → r ≡ bench_sum table charge ticks
unfolding bench_sum every_affinity
bench_few table charge ticks {n = n} {byte = byte} started e i h f j g s q =
    let count : n ≡ task_count table = i ∙ e in
    let every : byte ≡ every_core (core_count table) = g ∙ ap every_core (j ∙ f) in
    let is : started ≡ start_of (beside table charge (replicate (task_count table) (every_core (core_count table)))) (replicate (task_count table) 1) 1 =
    rw (← count, ← every, ← front_equal n 16 byte h, ← front_equal n 16 1 h) s in
    rw (le-ltb 16 (task_count table) (omega arith), ← is) q
