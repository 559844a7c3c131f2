-- The three demands hold of every sound table, and that of the step ceiling; the stored forms are sound.
use Prim.Native.Nat.{ℕ, ◌≤◌}
use mathlib.Core.Path.{◌≡◌, refl}
use mathlib.Core.List.{List}
use mathlib.Core.Logic.{◌↔◌}
use lib.ListN.{length}
use Rattle.refusal.specs.Conditions.{Gives}
use Rattle.fields.specs.Hyperperiod.{hyperperiod_of}
use Rattle.taskset.specs.Demands.{load_on}
use Rattle.taskset.specs.Table.{Table, Sound}
use Rattle.taskset.proofs.DemandLaws.{demand_exact}
use Rattle.taskset.proofs.TableLaws.{bare_sound, read_decided, read_reads}
use Rattle.oldform.proofs.OldLaws.{beside_sound, alone_sound, beside-stored, alone-stored}
use Rattle.newform.proofs.NewLaws.{new_sound, new-stored}
use Rattle.bus.proofs.BusLaws.{bus_sound, bus-stored}
use Rattle.transfer.proofs.CallLaws.{written_sound, returned_sound}
use Rattle.planner.proofs.PromiseLaws.{plan_decided, plan_promised}
use Rattle.quick.proofs.PromiseLaws.{quick_decided, quick_fits}
use Rattle.ceiling.proofs.PromiseLaws.{ceiling_decided, ceiling_promise, few_unspent}
use Rattle.firmware.proofs.CallLaws.{buffer_sound, call_answers}
use Rattle.runner.proofs.AnswerLaws.{answer_decides, answer_refused}
use Rattle.start.specs.Starts.{start_of}
use Rattle.start.proofs.StartLaws.{start_decided, start_promised}
use Rattle.guarantees.specs.Demands.{SoundForms, DemandOne, TickDemand, DemandTwo, CeilingDemand, DemandThree, ValidPlacement}

pub sound_forms : SoundForms
sound_forms = record {
  besides = beside_sound;
  alones = alone_sound;
  news = new_sound;
  buses = bus_sound;
  returneds = returned_sound;
  bares = bare_sound;
  writtens = written_sound;
  beside-stored = λ table charge affinity. beside-stored table charge affinity refl;
  alone-stored = λ table. alone-stored table refl;
  new-stored = λ table. new-stored table refl;
  bus-stored = λ table. bus-stored table refl;
}

pub tick-demand : TickDemand
tick-demand = record { tick = answer_decides; ticks = answer_refused }

module _ {t : Table} (s : Sound t) where
  pub demand-one : DemandOne t
  demand-one = record {
    within = λ limit v. (plan_decided s limit refl).accepted.1 v;
    outside = λ limit. (plan_decided s limit refl).refused;
    quick = quick_decided s refl;
    ceiling = ceiling_decided s refl;
    reader = read_decided t refl s;
    fresh = λ placement core. start_decided s placement core refl;
    entry = λ buffer limit. call_answers (buffer_sound s (length buffer)) limit buffer;
    reads = read_reads t refl s;
    plans = λ limit. plan_promised s limit refl;
    quicks = (quick_fits s refl).refused;
    ceilings = (ceiling_promise s refl).refused;
    starts = λ placement core. start_promised s placement core refl;
    unchanged = λ buffer limit. (call_answers (buffer_sound s (length buffer)) limit buffer).untouched;
  }

  pub demand-two : DemandTwo t
  demand-two limit v = (plan_promised s limit refl).promise v

  pub ceiling_demand : CeilingDemand t
  ceiling_demand = record {
    walk = (plan_promised s 0 refl).walks;
    ceils = (ceiling_promise s refl).valid;
    unspent = (ceiling_promise s refl).unspent;
    usual = few_unspent s;
  }

  -- a core of a valid table and placement is accepted exactly if its load fits
  starts_exactly : (placement : List ℕ) (core : ℕ) → t.Valid → ValidPlacement t.fields placement → 1 ≤ core → core ≤ t.fields.m
      → Gives (start_of t placement core).outcome 0 0 ↔ (load_on t.fields placement core ≤ hyperperiod_of t.fields)
  starts_exactly placement core v p least most = (
    λ e. ((start_decided s placement core refl).accepted.0 e).1.fits,
    λ h. (start_decided s placement core refl).accepted.1 (
      v,
      record { exact = p.exact; entries = p.entries; permitted = p.permits; number = (least, most); fits = h },
    ),
  )

  pub demand-three : DemandThree t
  demand-three = record {
    accepted = starts_exactly;
    exact = λ v k h. demand_exact (s.within v) h;
    ticks = λ placement core e. ((start_promised s placement core refl).accepted e).ticks;
  }
