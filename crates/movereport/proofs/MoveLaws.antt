-- A move into an output that has room for every accepted table: what is written, and what that is in the table's terms.
use Rattle.std.specs.Prelude.{Ok, Err}
use Prim.Native.Nat.{ℕ, ◌≤◌}
use mathlib.Core.Path.{◌≡◌, refl, sym, ◌∙◌}
use mathlib.Core.List.{List, []}
use mathlib.Core.Logic.{⊎_elim}
use lib.ListN.{length, take, drop}
use lib.Seq.{length-take-le, take-append_seam}
use native.Mathlib.Omega.{arith}
use borrow.Author.Tests.{le-ltb}
use Rattle.refusal.specs.Conditions.{First}
use Rattle.refusal.specs.Tests.{◌then◌, refuse_if, room_test, by_outcome}
use Rattle.refusal.specs.Outcome.{Outcome}
use Rattle.refusal.proofs.TestLaws.{outcome_cases, then_first, then_refused}
use Rattle.refusal.proofs.ConditionLaws.{decides, gives_refused}
use Rattle.text.specs.Shown.{shown, Appended}
use Rattle.text.specs.declared.Text.{Text}
use Rattle.text.proofs.ClipLaws.{append_whole}
use Rattle.refusal.specs.declared.Cause.TheVariants.{Buffer}
use Rattle.taskset.specs.Table.{Table, Sound}
use Rattle.fields.specs.declared.Fields.{Fields}
use Rattle.taskset.proofs.TableLaws.{table_accepts}
use Rattle.oldform.specs.Form.{alone_fields, old_bytes}
use Rattle.oldform.specs.Limits.{alone}
use Rattle.oldform.proofs.BackLaws.{old_long}
use Rattle.oldform.proofs.OldLaws.{alone_sound}
use Rattle.newform.specs.Form.{new_fields, new_bytes}
use Rattle.newform.specs.Limits.{new}
use Rattle.newform.proofs.BackLaws.{new_long}
use Rattle.storing.specs.Lent.{transfer_by, exit_by, transfer_after, exit_after, transfer_of, exit_of}
use Rattle.transfer.specs.Tables.{returned}
use Rattle.storing.specs.Promise.{stored_in}
use Rattle.storing.specs.declared.Transfer.{Transfer}
use Rattle.storing.proofs.StoreLaws.{transfer_outcome}
use Rattle.transfer.proofs.CallLaws.{returned_sound}
use Rattle.listing.specs.Lines.{refusal_line}
use Rattle.listing.specs.Printed.{printed}
use Rattle.listing.proofs.BackLaws.{refusal_read}
use Rattle.movereport.specs.Output.{Shows, moved_bytes, MoveOutput}
use Rattle.movereport.specs.Reported.{MoveReported}
use Rattle.movereport.specs.declared.Moved.{Moved}

-- ---- the texts

pub front-there : (out : List ℕ) {n : ℕ} → n ≤ length out → n ≡ length (take n out)
front-there out {n} h = sym (length-take-le n out h)

pub table_shown : (out : List ℕ) {n : ℕ} {t r : Text} → n ≤ length out → n ≤ 2560 → shown t ≡ [] → Appended t (take n out) (length (take n out)) r → shown r ≡ take n out
table_shown out {n} h g z p = append_whole z p (omega (arith, length-take-le n out h))

-- ---- the answer and the output, by the tests before number 8

-- the table in front of the output
stored_by : (o : Outcome) (bytes out : List ℕ) → stored_in (transfer_by o (length bytes)) (exit_by out o bytes) ≡ moved_bytes o bytes
unfolding transfer_by exit_by moved_bytes by_outcome
stored_by (Ok _) bytes out = take-append_seam bytes (drop (length bytes) out)
stored_by (Err cause) bytes out = refl

length_by : (o : Outcome) (size room : ℕ) → (o ≡ Ok tt → size ≤ room) → (transfer_by o size).length ≤ room
unfolding transfer_by by_outcome
length_by (Ok _) size room h = h refl
length_by (Err cause) size room h = omega arith

module _ (bytes : Fields → List ℕ) {t : Table} (sound : Sound t) (out : List ℕ) (fits : t.Valid → length (bytes t.fields) ≤ length out) where
  abbrev tests : Outcome
  tests = t.outcome

  abbrev moved : List ℕ
  moved = bytes t.fields

  -- number 8 never occurs
  has_room : tests ≡ Ok tt → length moved ≤ length out
  has_room q = fits ((table_accepts sound).0 q)

  room : tests then room_test Buffer (length moved) (length out) ≡ tests
  unfolding refuse_if
  room =
      ⊎_elim
      (λ q. then_first tests _ q ∙ rw (le-ltb (length out) (length moved) (has_room q)) (sym q))
      (λ q. then_refused tests _ q.0 q.1 ∙ sym q.1)
      (outcome_cases tests)

  -- in the table's terms
  module _ {w : Moved} (s : MoveOutput bytes t w) where
    moved-shown : t.Valid → Shows moved [] w
    unfolding moved_bytes printed by_outcome
    moved-shown v = let q = (table_accepts sound).1 v in record { table = s.table ∙ rw q; refusal = s.refusal ∙ rw q }

    refusal_shown : (number place : ℕ) → 1 ≤ number → First t.conditions number place → Shows [] (refusal_line number place) w
    unfolding moved_bytes printed by_outcome
    refusal_shown number place h f =
        let g = gives_refused tests number place h (((decides sound.tested).refused number place h).1 f) in
        record { table = s.table ∙ rw g.1; refusal = s.refusal ∙ rw (g.1, g.2, g.3) }

    in_terms : 1 ≤ length moved → MoveReported bytes t w
    in_terms some = record {
      moved = moved-shown;
      some = λ v. rw (moved-shown v).table some;
      refused = refusal_shown;
      read_back = λ number place h f. rw (refusal_shown number place h f).refusal (refusal_read number place);
    }

  module _ {r : Transfer} {after : List ℕ} (e : r ≡ transfer_of Buffer bytes t (length out)) (g : after ≡ exit_of Buffer bytes t out) where
    answer_is : r ≡ transfer_by tests (length moved)
    unfolding transfer_after
    answer_is = e ∙ rw room

    after_is : after ≡ exit_by out tests moved
    unfolding exit_after
    after_is = g ∙ rw room

    -- the table's length is within the output's, which a text holds
    pub length-fits : length after ≡ length out → length out ≤ 2560 → (r.length ≤ length after) × (r.length ≤ 2560)
    length-fits same h =
        let l : r.length ≤ length out = rw answer_is (length_by tests (length moved) (length out) has_room) in (omega arith, omega arith)

    output_made : {w : Moved} → Shows (stored_in r after) (printed r.outcome []) w → MoveOutput bytes t w
    output_made s = record {
      table = s.table ∙ rw (answer_is, after_is) (stored_by tests moved out);
      refusal = s.refusal ∙ rw (e, transfer_outcome Buffer tests moved (length out), room);
    }

    pub both : 1 ≤ length moved → {w : Moved} → Shows (stored_in r after) (printed r.outcome []) w → MoveOutput bytes t w × MoveReported bytes t w
    both some s = (output_made s, in_terms (output_made s) some)

-- ---- each move

module _ (s out : List ℕ) {r : Transfer} {after : List ℕ} (e : r ≡ transfer_of Buffer new_bytes (alone s) (length out)) (g : after ≡ exit_of Buffer new_bytes (alone s) out) (room : 148 ≤ length out) where
  new-fits : (alone s).Valid → length (new_bytes (alone s).fields) ≤ length out
  unfolding alone
  new-fits v = omega (arith, new_long (alone_fields s) v.fields, v.fields.sizes.tasks.1)

  pub new-length : length after ≡ length out → length out ≤ 2560 → (r.length ≤ length after) × (r.length ≤ 2560)
  new-length = length-fits new_bytes (alone_sound s) out new-fits e g

  pub new_both : {w : Moved} → Shows (stored_in r after) (printed r.outcome []) w → MoveOutput new_bytes (alone s) w × MoveReported new_bytes (alone s) w
  unfolding new_bytes
  new_both x = both new_bytes (alone_sound s) out new-fits e g (omega arith) x

module _ (s out : List ℕ) {r : Transfer} {after : List ℕ} (e : r ≡ transfer_of Buffer old_bytes (returned s) (length out)) (g : after ≡ exit_of Buffer old_bytes (returned s) out) (room : 130 ≤ length out) where
  old_fits : (returned s).Valid → length (old_bytes (returned s).fields) ≤ length out
  unfolding returned new
  old_fits v = omega (arith, old_long (new_fields s) v.0.fields, v.0.fields.sizes.tasks.1)

  pub old_length_fact : length after ≡ length out → length out ≤ 2560 → (r.length ≤ length after) × (r.length ≤ 2560)
  old_length_fact = length-fits old_bytes (returned_sound s) out old_fits e g

  pub old_both : {w : Moved} → Shows (stored_in r after) (printed r.outcome []) w → MoveOutput old_bytes (returned s) w × MoveReported old_bytes (returned s) w
  unfolding old_bytes
  old_both x = both old_bytes (returned_sound s) out old_fits e g (omega arith) x
