-- With charge 0 what is said of a board with a charge is the base; with every core permitted it is as without core bytes.
use Prim.Native.Nat.{◌*◌, ◌/◌}
use mathlib.Core.Path.{refl, sym, ◌∙◌, ap}
use Rattle.affinity.proofs.PermittedLaws.{every_permits}
use Rattle.fields.specs.Fields.{period_at, Free}
use Rattle.fields.specs.Hyperperiod.{hyperperiod_of}
use Rattle.taskset.specs.Demands.{demand_of}
use Rattle.fields.specs.Limits.{Sized}
use Rattle.taskset.specs.Table.{Table, Sound}
use Rattle.fields.specs.declared.Fields.{Fields}
use Rattle.fields.proofs.LimitLaws.{cost_uncharged, charge_uncharged, costs_uncharged, row_every, affinity_every}
use Rattle.oldform.specs.Form.{beside_fields}
use Rattle.oldform.specs.Limits.{beside, alone}
use Rattle.oldform.proofs.FormLaws.{every_counted, every_affinity_fact}
use Rattle.planner.proofs.PromiseLaws.{walk_rule}
use Rattle.ceiling.proofs.PromiseLaws.{ceiling_promise}
use Rattle.edf.specs.Tick.{owed_for}
use Rattle.edf.proofs.DemandLaws.{owed_uncharged}
use Rattle.entries.proofs.EntryLaws.{barred_every}
use Rattle.start.proofs.StartLaws.{start_alone}
use Rattle.guarantees.specs.Demands.{Uncharged, Every, Untied, UntiedCeiling, Alone}

-- ---- no charge

pub uncharged : Uncharged
unfolding demand_of owed_for
uncharged = record {
  cost = cost_uncharged;
  demand = λ f e k. ap (λ x. x * hyperperiod_of f / period_at f k) (cost_uncharged f e k);
  owed = owed_uncharged;
  owed_in_fact = λ tasks e ticks k p. rw e (owed_uncharged _ _);
  thirteen = charge_uncharged;
  fourteen = costs_uncharged;
}

-- ---- every core

all-permitted : (f : Fields) → Sized f → Every f → Free f
all-permitted f z e k h core i l = rw (e.bytes k h) (every_permits f.m z.cores.1 core i l)

pub untied : Untied
untied = record {
  choices = all-permitted;
  twins = λ f w e c d i l j h.
      let free = all-permitted f w.sizes e in
      ((walk_rule f w).twins c d).1 (λ k b. free k b c i l ∙ sym (free k b d j h));
  fifteen = λ f z e. (row_every f e.counted, affinity_every f z e.bytes);
  sixteen = λ f placement z e. barred_every f placement z.cores.1 e.bytes;
}

pub untied_ceiling : {t : Table} → Sound t → UntiedCeiling t
untied_ceiling {t} s v e = ((ceiling_promise s refl).valid v).free (all-permitted t.fields (s.within v).sizes e)

-- ---- both

pub alone_is : Alone
unfolding alone beside beside_fields
alone_is = record {
  fields = λ table. refl;
  outcome = λ table. refl;
  uncharged = λ table. refl;
  every = λ table charge z. record { counted = every_counted table charge; bytes = every_affinity_fact table charge z.tasks.1 };
  fresh = start_alone;
}
