-- A table of the new form, with its charge and core bytes beside it in the old form, is valid there, has the same fields and reads alike.
use Prim.Native.Nat.{ℕ, ◌+◌, ◌*◌, ◌<◌}
use mathlib.Core.Path.{◌≡◌, sym, ◌∙◌, ap}
use mathlib.Core.List.{List, [], append-nil}
use lib.ListN.{take}
use lib.Seq.{get_or-take}
use Rattle.numbers.proofs.RowLaws.{row_cong}
use Rattle.wire.specs.Bytes.{word_at}
use Rattle.wire.proofs.WriteBackLaws.{front_long}
use Rattle.fields.specs.Fields.{period_at, budget_at, cut}
use Rattle.fields.specs.Limits.{Within}
use Rattle.fields.specs.declared.Fields.{Fields}
use Rattle.fields.proofs.LimitLaws.{affinity_there}
use Rattle.taskset.specs.Reading.{accepted_reading}
use Rattle.taskset.specs.Table.{reading_of}
use Rattle.taskset.proofs.TableLaws.{valid_reading}
use Rattle.oldform.specs.Form.{beside_fields, old_bytes}
use Rattle.oldform.specs.Limits.{beside}
use Rattle.oldform.proofs.BackLaws.{old_long, old_form}
use Rattle.oldform.proofs.OldLaws.{beside_sound}
use Rattle.newform.specs.Form.{new_fields}
use Rattle.newform.specs.Limits.{new}
use Rattle.newform.proofs.BackLaws.{cut_read}
use Rattle.newform.proofs.NewLaws.{new_sound}
use Rattle.encoding.specs.Beside.{beside_of}

module _ (f : Fields) (w : Within f) where
  periods_there : (k : ℕ) → k < f.n → word_at (old_bytes f) 2 k ≡ period_at f k
  unfolding word_at
  periods_there k h = rw (append-nil (old_bytes f)) at ((old_form f w []).periods k h)

  budgets_there : (k : ℕ) → k < f.n → word_at (old_bytes f) (2 + 4 * f.n) k ≡ budget_at f k
  unfolding word_at
  budgets_there k h = rw (append-nil (old_bytes f)) at ((old_form f w []).budgets k h)

  parts_read : beside_fields (old_bytes f) f.charge (take f.n f.affinity) ≡ cut f
  unfolding beside_fields old_bytes cut
  parts_read = λ i. record {
    n = f.n;
    m = f.m;
    charge = f.charge;
    periods = row_cong 0 f.n _ _ periods_there i;
    budgets = row_cong 0 f.n _ _ budgets_there i;
    affinity = row_cong 0 f.n _ _ (λ k h. get_or-take f.n f.affinity k 0 h) i;
    given = front_long f.affinity (affinity_there f w) i;
  }

module _ (s : List ℕ) (v : (new s).Valid) where
  pub fields-beside : (beside_of s).fields ≡ (new s).fields
  unfolding beside new new_fields
  fields-beside = parts_read (new_fields s) v.fields ∙ cut_read s v.fields.sizes.tasks.1

  pub valid_beside : (beside_of s).Valid
  unfolding beside new old_bytes
  valid_beside = record {
    exact = old_long (new_fields s) v.fields;
    row = front_long (new_fields s).affinity (affinity_there (new_fields s) v.fields);
    fields = rw fields-beside v.fields;
  }

  pub reads_beside : reading_of (beside_of s) ≡ reading_of (new s)
  reads_beside = valid_reading (beside_sound _ _ _) valid_beside ∙ ap accepted_reading fields-beside ∙ sym (valid_reading (new_sound s) v)
