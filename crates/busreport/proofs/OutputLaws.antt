-- The output is that of the table for bus drives, and unless number 22 refuses it, that of the table by the general reader.
use Prim.Native.Nat.{ℕ}
use mathlib.Core.Path.{◌≡◌, ◌∙◌}
use mathlib.Core.List.{List}
use mathlib.Core.Logic.{◌≢◌}
use Rattle.refusal.specs.Causes.{number_in}
use Rattle.taskset.specs.Table.{reading_of}
use Rattle.taskset.specs.declared.Reading.{Reading}
use Rattle.newform.specs.Limits.{new}
use Rattle.report.specs.Output.{read_output, output_of}
use Rattle.report.specs.Reported.{Reported, PlanReadBack}
use Rattle.report.proofs.OutputLaws.{output_all, output_alike}
use Rattle.bus.specs.Limits.{bus}
use Rattle.bus.proofs.BusLaws.{bus_sound}
use Rattle.bus.proofs.PromiseLaws.{reads_alike}

pub bus_output : (s : List ℕ) {g : Reading} → g ≡ reading_of (bus s) → {x : List ℕ} → x ≡ read_output g
    → (x ≡ output_of (bus s)) × (Reported (bus s) x × (PlanReadBack (bus s) x × (number_in (bus s).outcome ≢ 22 → x ≡ output_of (new s))))
bus_output s e w =
    let a = output_all (bus_sound s) e w in
    (a.0, (a.1.0, (a.1.1, λ n. a.0 ∙ output_alike (bus s) (new s) (reads_alike s n))))
