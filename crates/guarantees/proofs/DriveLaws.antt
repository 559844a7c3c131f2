-- The calls for bus drives keep what is demanded of them.
use Prim.Native.Nat.{ℕ}
use mathlib.Core.Path.{refl}
use mathlib.Core.List.{List}
use Rattle.newform.specs.Limits.{new}
use Rattle.profile.proofs.ListLaws.{listed_exactly}
use Rattle.bus.specs.Limits.{bus}
use Rattle.bus.proofs.PromiseLaws.{bus_reads, bus_plans, reads_alike}
use Rattle.report.proofs.OutputLaws.{output_alike}
use Rattle.guarantees.specs.Driving.{BusDemand}

pub bus-demand : (table : List ℕ) → BusDemand table
bus-demand table = record {
  list = listed_exactly;
  reads = bus_reads table refl;
  plans = λ limit. bus_plans table limit refl;
  prints = λ n. output_alike (bus table) (new table) (reads_alike table n);
}
