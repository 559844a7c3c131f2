-- What W7 asks of the two stored forms holds.
use Rattle.std.specs.Prelude.{Ok}
use Prim.Native.Nat.{ℕ, ◌≤◌}
use mathlib.Core.Path.{◌≡◌, refl, sym, ◌∙◌, ap, ap₂}
use mathlib.Core.List.{List, [], ◌++◌}
use lib.ListN.{length, take, drop}
use Rattle.refusal.specs.declared.Cause.TheVariants.{Buffer}
use Rattle.taskset.specs.Table.{Table, reading_of}
use Rattle.fields.specs.declared.Fields.{Fields}
use Rattle.taskset.proofs.TableLaws.{table_accepts, read_outcome, read_fields, answers_alike}
use Rattle.oldform.specs.Limits.{alone}
use Rattle.oldform.proofs.OldLaws.{alone_sound}
use Rattle.newform.specs.Limits.{new}
use Rattle.newform.proofs.NewLaws.{new_sound}
use Rattle.encoding.proofs.BesideLaws.{fields-beside, valid_beside, reads_beside}
use Rattle.storing.proofs.StorableLaws.{Storable, call_valid, call_decides, call_stores}
use Rattle.transfer.proofs.CallLaws.{writing, moving, returning, write_back, write_unread, read_written, moved_on, moved_back}
use Rattle.planner.specs.Plan.{plan_for, plan_of}
use Rattle.planner.proofs.PlanLaws.{plan_accepted_is, plan_alike}
use Rattle.quick.specs.Quick.{quick_for, refused_quick, quick_by, quick_of}
use Rattle.ceiling.specs.Ceiling.{ceiling_for, refused_ceiling, ceiling_by, ceiling_of}
use Rattle.listing.specs.Printed.{printed}
use Rattle.report.proofs.OutputLaws.{output_alike}
use Rattle.quickreport.specs.Output.{quick_lines, quick_output_of}
use Rattle.firmware.specs.Call.{called, code_of, code_for, buffer_after}
use Rattle.firmware.proofs.CallLaws.{called_sound, code_accepted_is, buffer_accepted_is}
use Rattle.guarantees.specs.Forms.{new_in, MovesOn, StoresIn, Forms, AnsweredAlike}

-- ---- tables that read alike

module _ (t u : Table) (e : reading_of t ≡ reading_of u) where
  quick_same : quick_of t ≡ quick_of u
  unfolding quick_of quick_by
  quick_same = answers_alike t u e refused_quick quick_for

  ceiling_same : ceiling_of t ≡ ceiling_of u
  unfolding ceiling_of ceiling_by
  ceiling_same = answers_alike t u e refused_ceiling ceiling_for

  quick_output_same : quick_output_of t ≡ quick_output_of u
  unfolding quick_output_of
  quick_output_same = ap₂ (λ r p. printed p.outcome (quick_lines r.tasks p)) e quick_same

pub answered-alike : AnsweredAlike
answered-alike t u e = record { plans = plan_alike t u e; quick = quick_same t u e; ceiling = ceiling_same t u e; output = output_alike t u e; quick_output = quick_output_same t u e }

-- ---- a table that was moved to the new form

module _ (s out : List ℕ) (moved : MovesOn s out) where
  reads_alike : reading_of (new (new_in s out)) ≡ reading_of (alone s)
  reads_alike = (moved_on s out refl refl moved.small).reads moved.accepted

  valid : (alone s).Valid
  valid = call_valid Buffer refl (moving s) out refl refl moved.accepted

  well : (reading_of (alone s)).outcome ≡ Ok tt
  well = read_outcome (alone s) refl ∙ (table_accepts (alone_sound s)).1 valid

  valid_on : (new (new_in s out)).Valid
  valid_on = (table_accepts (new_sound (new_in s out))).0 (sym (read_outcome (new (new_in s out)) (sym reads_alike)) ∙ well)

  fields-on : (new (new_in s out)).fields ≡ (alone s).fields
  fields-on = sym (read_fields (new (new_in s out)) (sym reads_alike) well) ∙ read_fields (alone s) refl well

  -- the firmware's call, where its buffer has room
  module _ (room : ℕ) (h : (alone s).fields.n ≤ room) where
    call_on : (called (new_in s out) room).outcome ≡ Ok tt
    call_on = (table_accepts (called_sound (new_in s out) room)).1 (valid_on, rw fields-on h)

    plan_on : (limit : ℕ) → plan_for (new (new_in s out)).fields limit ≡ plan_of (alone s) limit
    plan_on limit = ap (λ f. plan_for f limit) fields-on ∙ sym (plan_accepted_is (alone s) limit ((table_accepts (alone_sound s)).1 valid))

  code_alike : (limit room : ℕ) → (alone s).fields.n ≤ room → code_for (called (new_in s out) room) limit ≡ code_of (plan_of (alone s) limit).verdict
  code_alike limit room h = code_accepted_is (called (new_in s out) room) limit [] (call_on room h) ∙ ap (λ a. code_of a.verdict) (plan_on room h limit)

  buffer_alike : (limit : ℕ) (buffer : List ℕ) → (alone s).fields.n ≤ length buffer
      → buffer_after (called (new_in s out) (length buffer)) limit buffer ≡ take (alone s).fields.n (plan_of (alone s) limit).placement ++ drop (alone s).fields.n buffer
  buffer_alike limit buffer h =
      buffer_accepted_is (called (new_in s out) (length buffer)) limit buffer (call_on (length buffer) h)
      ∙ ap₂ (λ f a. take f.n a.placement ++ drop f.n buffer) fields-on (plan_on (length buffer) h limit)

stores_in : {bytes : Fields → List ℕ} {Form : List ℕ → Type 0} {size : ℕ} {t : Table} → Storable bytes Form size t → StoresIn bytes Form size t
stores_in s = record { decides = λ out. call_decides Buffer refl s out refl refl; stores = λ out. call_stores Buffer refl s out refl refl }

pub forms : Forms
forms = record {
  writes = λ f. stores_in (writing f);
  moves-on = λ s. stores_in (moving s);
  moves_back = λ s. stores_in (returning s);
  read_back = λ f out. write_back f out refl refl;
  write_back = read_written;
  unread = λ f g a out. write_unread f out refl refl g a;
  there_and_back = λ s out m. (moved_on s out refl refl m.small).returns m.accepted;
  back_and_there = λ s out m. (moved_back s out refl refl m.small).returns m.accepted;
  reads_alike = reads_alike;
  reads_alike_back = λ s out m. (moved_back s out refl refl m.small).reads m.accepted;
  code_alike = code_alike;
  buffer_alike = buffer_alike;
  valid_beside = valid_beside;
  fields-beside = fields-beside;
  reads_beside = reads_beside;
}
