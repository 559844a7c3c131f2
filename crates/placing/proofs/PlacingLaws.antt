-- The tests of a placing decide: each reports its condition, and none holds exactly where the limits are kept.
use Prim.Native.Nat.{ℕ, ◌≤◌, ◌<◌}
use native.Mathlib.Omega.{arith}
use mathlib.Core.Path.{◌≡◌, refl, sym, ◌∙◌}
use mathlib.Core.Bool.{true≢false}
use mathlib.Core.Logic.{⊎_elim}
use mathlib.Core.List.{List, [], ◌∷◌}
use Rattle.numbers.proofs.BoolLaws.{true_or_false}
use Rattle.numbers.proofs.BoundLaws.{outside_exactly, not_outside, less_exactly, not_less, not_unequal}
use Rattle.affinity.specs.Permitted.{every_core}
use Rattle.refusal.specs.Tests.{in_order}
use Rattle.refusal.specs.Conditions.{Tested}
use Rattle.refusal.specs.declared.Cause.TheVariants.{CoreNumber, Overload}
use Rattle.refusal.proofs.ConditionLaws.{test_only, ◌and◌, no_more, ◌also◌, unnamed}
use Rattle.fields.specs.declared.Fields.{Fields}
use Rattle.fields.specs.Fields.{affinity_at}
use Rattle.fields.specs.Hyperperiod.{hyperperiod_of}
use Rattle.taskset.specs.Demands.{load_on}
use Rattle.taskset.specs.Table.{Table, Sound}
use Rattle.taskset.proofs.TableLaws.{also_sound}
use Rattle.entries.specs.Limits.{other_places, core_above, core_barred}
use Rattle.entries.proofs.EntryLaws.{places_tested, entries_tested, permitted-tested, barred_every}
use Rattle.placing.specs.Tests.{placing_outcome}
use Rattle.placing.specs.Limits.{Placed, number_outside, load_above, placing, placing_alone, placed}

-- Each test of the placing reports its condition, and none holds exactly where the limits are kept.
module _ (f : Fields) (placement : List ℕ) (core : ℕ) where
  pub placing-tested : Tested (Placed f placement core) (placing f placement core) (placing_outcome f placement core)
  unfolding placing_outcome in_order
  placing-tested = record {
    reports =
        places_tested f placement
        and entries_tested f placement
        and permitted-tested f placement
        and test_only CoreNumber refl (outside_exactly 1 f.m core)
        and test_only Overload refl (less_exactly (hyperperiod_of f) (load_on f placement core))
        and no_more;
    valid = (
      λ n. record {
        exact = not_unequal _ _ n.0;
        entries = λ k h. not_less _ _ (n.1.0 k h);
        permitted = λ k h l. ⊎_elim (λ e. e) (λ e. absurd (n.1.1.0 k h (l, e))) (true_or_false _);
        number = (not_outside 1 f.m core).0 n.1.1.1.0;
        fits = not_less _ _ n.1.1.1.1.0;
      },
      λ v.
          (λ n. n v.exact)
          also (λ k h g. omega (arith, v.entries k h))
          also (λ k h x. true≢false (sym (v.permitted k h x.0) ∙ x.1))
          also (not_outside 1 f.m core).1 v.number
          also (λ g. omega (arith, v.fits))
          also tt,
    );
  }

-- A sound table, with a placing beside it, is sound.
pub placed_sound : {t : Table} → Sound t → (placement : List ℕ) (core : ℕ) → Sound (placed t placement core)
placed_sound {t} sound placement core = also_sound sound (placing-tested t.fields placement core)

-- Where the byte of every core is each task's, number 16 need not be named.
pub placing-tested_alone : (f : Fields) (placement : List ℕ) (core : ℕ) → f.m ≤ 4 → ((k : ℕ) → k < f.n → affinity_at f k ≡ every_core f.m)
    → Tested (Placed f placement core) (placing_alone f placement core) (placing_outcome f placement core)
placing-tested_alone f placement core few every =
    unnamed (other_places f placement ∷ core_above f placement ∷ []) (core_barred f placement) (number_outside f core ∷ load_above f placement core ∷ [])
    (λ n. barred_every f placement few every n.1.0) (placing-tested f placement core)
