-- Bus drives: what is demanded of the reader, the planner and the program of the drive-bus profile, over the definitions that the calls equal. Demands 1
-- and 2 hold of `bus table` as of every sound table; here is what they do not say.
use Rattle.std.specs.Prelude.{ℕ, ◌≤◌, ◌≡◌, List, ◌≢◌, ◌↔◌}
use Rattle.std.specs.Int.{◌∣◌}
use Rattle.refusal.specs.Causes.{number_in}
use Rattle.taskset.specs.Table.{reading_of}
use Rattle.newform.specs.Limits.{new}
use Rattle.profile.specs.Periods.{Listed}
use Rattle.bus.specs.Limits.{bus}
use Rattle.bus.specs.Promise.{BusReads, BusPlans}
use Rattle.planner.specs.Plan.{plan_of}
use Rattle.report.specs.Output.{output_of}

pub record BusDemand (table : List ℕ) : Type 0 where
  -- A number from 1 on is in the list exactly if it divides 10,000.
  pub list : (period : ℕ) → 1 ≤ period → Listed period ↔ (period ∣ 10000)
  -- A period that is not in the list is refused with number 22, tested directly after 5; the frame divides 10,000, and number 7 never occurs. All else
  -- agrees with the general reader,
  pub reads : BusReads table (reading_of (bus table))
  -- and, for the same contents, with the exact planner.
  pub plans : (limit : ℕ) → BusPlans table limit (plan_of (bus table) limit)
  -- Unless it is number 22, the program prints what `millplan` prints.
  pub prints : number_in (bus table).outcome ≢ 22 → output_of (bus table) ≡ output_of (new table)
