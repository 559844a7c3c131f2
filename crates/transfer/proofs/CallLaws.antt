-- The writer and the moves: their tables are sound and storable, and what they promise.
use Rattle.std.specs.Prelude.{Ok}
use Prim.Native.Nat.{ℕ, ◌+◌, ◌*◌, ◌≤◌}
use mathlib.Core.Path.{◌≡◌, refl, sym, ◌∙◌, ap}
use mathlib.Core.List.{List, [], ◌∷◌, ◌++◌}
use lib.ListN.{length, get_or, length-replicate}
use Rattle.wire.specs.Bytes.{Bytes}
use Rattle.refusal.specs.Tests.{◌then◌}
use Rattle.refusal.specs.declared.Cause.TheVariants.{Buffer}
use Rattle.refusal.specs.Outcome.{Outcome}
use Rattle.refusal.proofs.ConditionLaws.{unnamed}
use Rattle.fields.specs.Fields.{Free, cut}
use Rattle.fields.specs.Tests.{fields_outcome}
use Rattle.taskset.specs.Reading.{accepted_reading, reading_by}
use Rattle.fields.specs.Limits.{Within, sizes, charge_above, period_outside, budget_outside, cost_above, row_other, affinity_unfit, multiple_above}
use Rattle.taskset.specs.Table.{bare, reading_of, Sound}
use Rattle.fields.specs.declared.Fields.{Fields}
use Rattle.taskset.specs.declared.Reading.{Reading}
use Rattle.fields.proofs.LimitLaws.{row_every, fields-tested}
use Rattle.taskset.proofs.TableLaws.{also-after, valid_reading, also_reading}
use Rattle.oldform.specs.Form.{task_count, beside_fields, every_affinity, alone_fields, old_bytes, OldForm}
use Rattle.oldform.specs.Limits.{ValidBeside, alone}
use Rattle.oldform.proofs.FormLaws.{every_affinity_fact}
use Rattle.oldform.proofs.BackLaws.{old_long, old_form, old_read_back, old_write_back, cut-alone}
use Rattle.oldform.proofs.OldLaws.{alone_sound}
use Rattle.newform.specs.Form.{new_fields, new_bytes, NewForm}
use Rattle.newform.specs.Limits.{ValidNew, new}
use Rattle.newform.proofs.BackLaws.{new_long, new_form, new_read_back, new_write_back, cut_read}
use Rattle.newform.proofs.NewLaws.{new_sound}
use Rattle.storing.specs.Lent.{transfer_of, exit_of}
use Rattle.storing.specs.Promise.{Yields}
use Rattle.storing.specs.declared.Transfer.{Transfer}
use Rattle.storing.proofs.StoreLaws.{transfer_same, output_same}
use Rattle.storing.proofs.StorableLaws.{Storable, call_valid, call_stored, yields}
use Rattle.transfer.specs.Tables.{counted, written, filling_test, returned}
use Rattle.transfer.specs.Promise.{ReadBack, Unread, MovedOn, MovedBack}
use Rattle.transfer.proofs.FillingLaws.{every_free, free_every, filling_tested}
use Rattle.transfer.proofs.UnreadLaws.{tested_within, outcome_alike, bytes_alike, within_cut}

-- ---- the writer

module _ (f : Fields) where
  pub written_sound : Sound (written f)
  unfolding written
  written_sound = record {
    tested =
        unnamed (sizes f ++ charge_above f ∷ period_outside f ∷ budget_outside f ∷ cost_above f ∷ []) (row_other (counted f)) (affinity_unfit f ∷ multiple_above f ∷ [])
        (λ n. row_every (counted f) refl) (fields-tested (counted f));
    within = λ w. w;
  }

  pub writing : Storable new_bytes (NewForm f) (4 + 9 * f.n) (written f)
  unfolding written new_bytes
  writing = record {
    sound = written_sound;
    long = new_long (counted f);
    form = λ w behind.
        let s = new_form (counted f) w behind in
        record { first = s.first; tasks = s.tasks; cores = s.cores; charge = s.charge; periods = s.periods; budgets = s.budgets; affinity = s.affinity };
  }

  -- the reading that the program goes by
  pub written_reading : {l : Fields} {g : Reading} → l ≡ counted f → g ≡ reading_of (bare l) → g ≡ reading_of (written f)
  unfolding reading_of bare written
  written_reading e c = c ∙ rw e

  -- What is written is a valid table that reads as these fields, cut at n.
  module _ (w : Within (counted f)) where
    back_fields : new_fields (new_bytes f) ≡ cut f
    unfolding new_bytes cut
    back_fields = new_read_back (counted f) w

    back_valid : ValidNew (new_bytes f)
    unfolding new_bytes
    back_valid = record { first = refl; exact = new_long (counted f) w; fields = rw back_fields (within_cut f w) }

    back_reading : reading_of (new (new_bytes f)) ≡ accepted_reading (cut f)
    unfolding new
    back_reading = valid_reading (new_sound (new_bytes f)) back_valid ∙ ap accepted_reading back_fields

  module _ (out : List ℕ) {after : List ℕ} {r : Transfer} (e : r ≡ transfer_of Buffer new_bytes (written f) (length out)) (g : after ≡ exit_of Buffer new_bytes (written f) out) where
    pub write_back : ReadBack f r after
    unfolding written new_bytes
    write_back q = rw (call_stored Buffer refl writing out e g q) (back_reading (call_valid Buffer refl writing out e g q))

    pub write_unread : Unread f out r after
    unfolding written new_bytes
    write_unread h a =
        let o : fields_outcome (counted h) ≡ fields_outcome (counted f) = sym (outcome_alike f h a) in
        let b : fields_outcome (counted f) ≡ Ok tt → new_bytes h ≡ new_bytes f = λ q. sym (bytes_alike f h a (tested_within (counted f) q) (tested_within (counted h) (o ∙ q))) in
        (transfer_same Buffer o b (length out) ∙ sym e, output_same Buffer o b out ∙ sym g)

-- writing what was read gives the bytes
pub read_written : (s : List ℕ) → Bytes s → (new s).Valid → Yields Buffer new_bytes (written (new s).fields) s
unfolding new written new_fields
read_written s small v = yields Buffer new_bytes (written_sound (new_fields s)) v.fields s (new_write_back s small v)

-- ---- the move back

module _ (s : List ℕ) where
  pub returned_sound : Sound (returned s)
  unfolding returned
  returned_sound = also-after (new_sound s) (λ v. filling_tested (new s).fields ((new_sound s).within v))

  pub returning : Storable old_bytes (OldForm (new s).fields) (2 + 8 * get_or s 1 0) (returned s)
  unfolding returned new new_fields
  returning = record { sound = returned_sound; long = λ v. old_long (new_fields s) v.0.fields; form = λ v. old_form (new_fields s) v.0.fields }

  -- the reading that the program goes by
  pub returned_reading : {read g : Reading} {filling : Outcome} → read ≡ reading_of (new s) → filling ≡ filling_test read.tasks.fields
      → g ≡ reading_by (read.outcome then filling) read.tasks.fields → g ≡ reading_of (returned s)
  unfolding returned
  returned_reading c p h = also_reading (new s) c filling_test refl _ _ (rw p at h)

-- ---- both moves undo each other

-- A valid table of the old form, moved: it reads as before, and moved back it is the same bytes.
module _ (s : List ℕ) (v : ValidBeside s 0 (every_affinity s)) where
  abbrev there : List ℕ
  there = new_bytes (alone_fields s)

  few : task_count s ≤ 16
  unfolding beside_fields
  few = v.fields.sizes.tasks.1

  there-fields : new_fields there ≡ alone_fields s
  there-fields = new_read_back (alone_fields s) v.fields ∙ cut-alone s few

  there_valid : ValidNew there
  unfolding new_bytes
  there_valid = record { first = refl; exact = new_long (alone_fields s) v.fields; fields = rw there-fields v.fields }

  there_reading : reading_of (new there) ≡ reading_of (alone s)
  unfolding new alone
  there_reading = valid_reading (new_sound there) there_valid ∙ ap accepted_reading there-fields ∙ sym (valid_reading (alone_sound s) v)

  there-returned : (returned there).Valid
  unfolding returned new beside_fields
  there-returned = (there_valid, rw there-fields (refl, every_free (alone_fields s) v.fields (every_affinity_fact s 0 few)))

  there_and_back : Bytes s → Yields Buffer old_bytes (returned there) s
  unfolding returned new
  there_and_back small =
      yields Buffer old_bytes (returned_sound there) there-returned s (ap old_bytes there-fields ∙ old_write_back s small 0 (every_affinity s) v)

-- A valid table of the new form with those fillings, moved back: it reads as before, and moved on again it is the same bytes.
module _ (s : List ℕ) (v : ValidNew s) (uncharged : (new_fields s).charge ≡ 0) (free : Free (new_fields s)) where
  abbrev here : List ℕ
  here = old_bytes (new_fields s)

  few_tasks : get_or s 1 0 ≤ 16
  unfolding new_fields
  few_tasks = v.fields.sizes.tasks.1

  here-fields : alone_fields here ≡ new_fields s
  here-fields = old_read_back (new_fields s) v.fields uncharged (free_every (new_fields s) v.fields free) ∙ cut_read s few_tasks

  here_valid : ValidBeside here 0 (every_affinity here)
  unfolding old_bytes every_affinity
  here_valid = record { exact = old_long (new_fields s) v.fields; row = length-replicate _ _; fields = rw here-fields v.fields }

  here_reading : reading_of (alone here) ≡ reading_of (new s)
  unfolding new alone
  here_reading = valid_reading (alone_sound here) here_valid ∙ ap accepted_reading here-fields ∙ sym (valid_reading (new_sound s) v)

  here_and_on : Bytes s → Yields Buffer new_bytes (alone here) s
  unfolding alone
  here_and_on small = yields Buffer new_bytes (alone_sound here) here_valid s (ap new_bytes here-fields ∙ new_write_back s small v)

-- ---- what is promised of the moves

pub moving : (s : List ℕ) → Storable new_bytes (NewForm (alone s).fields) (4 + 9 * get_or s 0 0) (alone s)
unfolding alone beside_fields
moving s = record { sound = alone_sound s; long = λ v. new_long (alone_fields s) v.fields; form = λ v. new_form (alone_fields s) v.fields }

pub moved_on : (s out : List ℕ) {after : List ℕ} {r : Transfer} → r ≡ transfer_of Buffer new_bytes (alone s) (length out) → after ≡ exit_of Buffer new_bytes (alone s) out
    → Bytes s → MovedOn s r after
unfolding alone
moved_on s out e g small = record {
  reads = λ q. rw (call_stored Buffer refl (moving s) out e g q) (there_reading s (call_valid Buffer refl (moving s) out e g q));
  returns = λ q. rw (call_stored Buffer refl (moving s) out e g q) (there_and_back s (call_valid Buffer refl (moving s) out e g q) small);
}

pub moved_back : (s out : List ℕ) {after : List ℕ} {r : Transfer} → r ≡ transfer_of Buffer old_bytes (returned s) (length out) → after ≡ exit_of Buffer old_bytes (returned s) out
    → Bytes s → MovedBack s r after
unfolding returned new
moved_back s out e g small = record {
  reads = λ q. let v = call_valid Buffer refl (returning s) out e g q in rw (call_stored Buffer refl (returning s) out e g q) (here_reading s v.0 v.1.0 v.1.1);
  returns = λ q. let v = call_valid Buffer refl (returning s) out e g q in rw (call_stored Buffer refl (returning s) out e g q) (here_and_on s v.0 v.1.0 v.1.1 small);
}
