-- A call that stores the fields of a sound table, once for every table, every bytes of fields and every cause.
use Rattle.std.specs.Prelude.{Ok}
use Prim.Native.Nat.{ℕ}
use mathlib.Core.Path.{◌≡◌, ◌∙◌, ap}
use mathlib.Core.List.{List, ◌++◌}
use lib.ListN.{length}
use borrow.Author.Tests.{le-ltb}
use Rattle.refusal.specs.Causes.{number_of, place_of}
use Rattle.refusal.specs.Tests.{◌then◌, refuse_if, by_outcome}
use Rattle.refusal.specs.declared.Cause.{Cause}
use Rattle.refusal.proofs.ConditionLaws.{decides}
use Rattle.taskset.specs.Table.{Table, lent, reading_of, Decided, Sound}
use Rattle.fields.specs.declared.Fields.{Fields}
use Rattle.taskset.specs.declared.Reading.{Reading}
use Rattle.taskset.proofs.TableLaws.{table_accepts, read_outcome, read_fields}
use Rattle.storing.specs.Lent.{transfer_by, exit_by, transfer_after, exit_after, transfer_of, exit_of}
use Rattle.storing.specs.Promise.{Stores, stored_in, Yields}
use Rattle.storing.specs.declared.Transfer.{Transfer}
use Rattle.storing.proofs.StoreLaws.{transfer_same, output_same, transfer_outcome, stored-tested, well, stored_is, stored_keeps}

-- A sound table t whose fields are stored as these bytes, of this size, in this form.
pub record Storable (bytes : Fields → List ℕ) (Form : List ℕ → Type 0) (size : ℕ) (t : Table) : Type 0 where
  pub sound : Sound t
  pub long : t.Valid → length (bytes t.fields) ≡ size
  pub form : t.Valid → (behind : List ℕ) → Form (bytes t.fields ++ behind)

module _ (cause : Cause) (z : place_of cause ≡ 0) {bytes : Fields → List ℕ} {Form : List ℕ → Type 0} {size : ℕ} {t : Table} (s : Storable bytes Form size t) where
  valid : t.outcome ≡ Ok tt → t.Valid
  valid = (table_accepts s.sound).0

  -- the steps of a program that goes by the table's reading
  module _ {g : Reading} (c : g ≡ reading_of t) where
    bytes_same : t.outcome ≡ Ok tt → bytes g.tasks.fields ≡ bytes t.fields
    bytes_same q = ap bytes (read_fields t c (read_outcome t c ∙ q))

    pub call_answer : (room : ℕ) {r : Transfer} → r ≡ transfer_after cause g.outcome (bytes g.tasks.fields) room → r ≡ transfer_of cause bytes t room
    call_answer room h = h ∙ transfer_same cause (read_outcome t c) bytes_same room

    pub call_output : (out : List ℕ) {after : List ℕ} → after ≡ exit_after cause g.outcome (bytes g.tasks.fields) out → after ≡ exit_of cause bytes t out
    call_output out h = h ∙ output_same cause (read_outcome t c) bytes_same out

  -- what its answer and output promise
  module _ (out : List ℕ) {after : List ℕ} {r : Transfer} (e : r ≡ transfer_of cause bytes t (length out)) (g : after ≡ exit_of cause bytes t out) where
    pub call_decides : Decided (lent cause (number_of cause) t size (length out)) r.outcome
    call_decides =
        rw (e, transfer_outcome cause t.outcome (bytes t.fields) (length out))
        (decides (stored-tested cause z t.outcome (bytes t.fields) size (length out) s.sound.tested s.long))

    pub call_stores : Stores Form size out r after
    call_stores = stored_keeps cause Form size t.outcome (bytes t.fields) out (λ q. s.long (valid q)) (λ q. s.form (valid q)) e g

    pub call_valid : r.outcome ≡ Ok tt → t.Valid
    call_valid q = valid (well cause Form size t.outcome (bytes t.fields) out (λ x. s.long (valid x)) (λ x. s.form (valid x)) e g q)

    pub call_stored : r.outcome ≡ Ok tt → stored_in r after ≡ bytes t.fields
    call_stored = stored_is cause Form size t.outcome (bytes t.fields) out (λ q. s.long (valid q)) (λ q. s.form (valid q)) e g

-- A call whose table is valid gives its bytes, wherever there is room.
pub yields : (cause : Cause) (bytes : Fields → List ℕ) {t : Table} → Sound t → t.Valid → (s : List ℕ) → bytes t.fields ≡ s → Yields cause bytes t s
unfolding transfer_after transfer_by exit_after exit_by by_outcome refuse_if ◌then◌
yields cause bytes sound v s e =
    let q = (table_accepts sound).1 v in
    record {
      answers = λ room h. rw (q, e, le-ltb room (length s) h);
      outputs = λ out h. rw (q, e, le-ltb (length out) (length s) h);
    }
