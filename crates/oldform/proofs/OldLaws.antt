-- A stored table's tests are those of its limits and refusals, and what its readers are promised.
use Prim.Native.Nat.{ℕ, ◌≤◌}
use mathlib.Core.Path.{◌≡◌, refl, ◌∙◌}
use mathlib.Core.List.{List, [], ◌∷◌, ◌++◌}
use lib.ListN.{length}
use native.Mathlib.Omega.{arith}
use Rattle.numbers.specs.Rows.{row, entry}
use Rattle.numbers.proofs.RowLaws.{get_or-row, row_beyond}
use Rattle.refusal.specs.Conditions.{Condition, None, Tested}
use Rattle.refusal.proofs.ConditionLaws.{◌also◌, tested_as, unnamed, unnamed_all}
use Rattle.taskset.specs.Reading.{reading_by}
use Rattle.fields.specs.Limits.{Sized, sizes, charge_above, period_outside, budget_outside, cost_above, row_other, affinity_unfit, multiple_above}
use Rattle.taskset.specs.Promise.{Reads}
use Rattle.taskset.specs.Table.{reading_of, Decided, Sound}
use Rattle.fields.specs.declared.Fields.{Fields}
use Rattle.taskset.specs.declared.Reading.{Reading}
use Rattle.fields.proofs.LimitLaws.{sizes_kept, charge_uncharged, costs_uncharged, row_every, affinity_every}
use Rattle.taskset.proofs.TableLaws.{read_decided, read_reads}
use Rattle.form.specs.Shape.{too_short, other_length}
use Rattle.form.specs.Layout.{Bounded, ReadsIn}
use Rattle.form.proofs.ShapeLaws.{short_tested, form_tested}
use Rattle.form.proofs.LayoutLaws.{fields_stand, fields_bounded, reads_in}
use Rattle.oldform.specs.Form.{task_count, old_length, beside_fields, every_affinity, alone_fields, FormBeside}
use Rattle.oldform.specs.Limits.{ValidBeside, beside_conditions, alone_conditions, old_outcome, beside, alone}
use Rattle.oldform.proofs.FormLaws.{every_counted, every_affinity_fact}

pub beside-tested : (s : List ℕ) (charge : ℕ) (affinity : List ℕ) → Tested (ValidBeside s charge affinity) (beside_conditions s charge affinity) (old_outcome s (beside_fields s charge affinity))
unfolding old_outcome beside_fields
beside-tested s charge affinity =
    tested_as (
      λ v. record { exact = v.0.1; row = v.1.counted; fields = v.1 },
      λ v. (((omega (arith, v.exact), v.fields.sizes), v.exact), v.fields),
    )
    (form_tested (short_tested 2 s) (old_length (task_count s)) s (beside_fields s charge affinity))

pub beside_sound : (s : List ℕ) (charge : ℕ) (affinity : List ℕ) → Sound (beside s charge affinity)
unfolding beside
beside_sound s charge affinity = record { tested = beside-tested s charge affinity; within = λ v. v.fields }

-- With charge 0 and every core permitted numbers 13, 14 and 15 are never the first to hold, so a table that is read by itself has numbers 1 to 7.
pub alone-tested : (s : List ℕ) → Tested (ValidBeside s 0 (every_affinity s)) (alone_conditions s) (old_outcome s (alone_fields s))
unfolding beside_fields
alone-tested s =
    let f : Fields = alone_fields s in
    let first : List Condition = too_short 2 s ∷ sizes f ++ other_length (old_length (task_count s)) s ∷ [] in
    let then-budgets : List Condition = first ++ period_outside f ∷ budget_outside f ∷ [] in
    let then-bytes : List Condition = row_other f ∷ affinity_unfit f ∷ [] in
    unnamed_all then-budgets (cost_above f ∷ then-bytes) (multiple_above f ∷ [])
    (λ n.
    let z : Sized f = (sizes_kept f).0 (n.1.0 also n.1.1.0 also tt) in
    costs_uncharged f refl n.1.1.1.1.1.0
    also row_every f (every_counted s 0)
    also affinity_every f z (every_affinity_fact s 0 z.tasks.1)
    also tt)
    (unnamed first (charge_above f) (period_outside f ∷ budget_outside f ∷ cost_above f ∷ then-bytes ++ multiple_above f ∷ []) (λ n. charge_uncharged f refl)
    (beside-tested s 0 (every_affinity s)))

pub alone_sound : (s : List ℕ) → Sound (alone s)
unfolding alone
alone_sound s = record { tested = alone-tested s; within = λ v. v.fields }

-- where none of these holds, the sizes are right
pub alone_sized : (s : List ℕ) → None (alone_conditions s) → Sized (alone_fields s)
alone_sized s n = (sizes_kept (alone_fields s)).0 (n.1.0 also n.1.1.0 also tt)

-- ---- the readers

-- each part of an accepted table stands at its place
beside_form : (s : List ℕ) (charge : ℕ) (affinity : List ℕ) → task_count s ≤ 16 → FormBeside charge affinity (beside_fields s charge affinity) s
unfolding beside_fields
beside_form s charge affinity few =
    let stands = fields_stand s 0 2 charge (row 0 (task_count s) (entry affinity)) (length affinity) few in
    record {
      form = record { tasks = stands.tasks; cores = stands.cores; periods = stands.periods; budgets = stands.budgets };
      charged = refl;
      bytes = λ k h. get_or-row 0 (task_count s) (entry affinity) k h few;
    }

module _ (s : List ℕ) (charge : ℕ) (affinity : List ℕ) where
  beside_valid : ValidBeside s charge affinity → FormBeside charge affinity (beside_fields s charge affinity) s
  unfolding beside_fields
  beside_valid v = beside_form s charge affinity v.fields.sizes.tasks.1

  beside_bounded : Bounded (beside_fields s charge affinity)
  unfolding beside_fields
  beside_bounded = fields_bounded s 0 2 charge _ _ (λ k h. row_beyond 0 (task_count s) (entry affinity) k h)

  pub beside-stored : {r : Reading} → r ≡ reading_of (beside s charge affinity) → ReadsIn (FormBeside charge affinity) s r
  unfolding beside
  beside-stored = reads_in (beside_sound s charge affinity) s beside_valid beside_bounded

  -- a reading by the tests is the table's
  pub beside_read : {f : Fields} {r : Reading} → r ≡ reading_by (old_outcome s f) f → f ≡ beside_fields s charge affinity
      → (r ≡ reading_of (beside s charge affinity)) × (Decided (beside s charge affinity) r.outcome × (Reads r × ReadsIn (FormBeside charge affinity) s r))
  unfolding reading_of beside
  beside_read {r = r} h e =
      let sound = beside_sound s charge affinity in
      let a : r ≡ reading_of (beside s charge affinity) = h ∙ rw e in
      (a, (read_decided _ a sound, (read_reads _ a sound, beside-stored a)))

pub alone-stored : (s : List ℕ) {r : Reading} → r ≡ reading_of (alone s) → ReadsIn (FormBeside 0 (every_affinity s)) s r
unfolding alone
alone-stored s = reads_in (alone_sound s) s (beside_valid s 0 (every_affinity s)) (beside_bounded s 0 (every_affinity s))

pub alone_read : (s : List ℕ) {f : Fields} {r : Reading} → r ≡ reading_by (old_outcome s f) f → f ≡ alone_fields s
    → (r ≡ reading_of (alone s)) × (Decided (alone s) r.outcome × (Reads r × ReadsIn (FormBeside 0 (every_affinity s)) s r))
unfolding reading_of alone
alone_read s {r = r} h e =
    let sound = alone_sound s in
    let a : r ≡ reading_of (alone s) = h ∙ rw e in
    (a, (read_decided _ a sound, (read_reads _ a sound, alone-stored s a)))
