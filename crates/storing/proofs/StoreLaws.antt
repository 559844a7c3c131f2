-- A call that stores a table: its answer and output are those of the definitions, and what these promise.
use Rattle.std.specs.Prelude.{Ok, Err}
use Prim.Native.Nat.{ℕ, ◌≤◌}
use mathlib.Core.Path.{◌≡◌, refl, sym, ◌∙◌, ap}
use mathlib.Core.List.{List, [], ◌∷◌, ◌++◌}
use mathlib.Core.Bool.{true≢false}
use mathlib.Core.Logic.{⊎_elim}
use lib.Dec.{ltb}
use lib.ListN.{length, drop, length-append, length-drop}
use lib.Seq.{take_at, drop_at}
use native.Mathlib.Omega.{arith}
use Rattle.numbers.proofs.BoundLaws.{less_exactly, not_less}
use Rattle.refusal.specs.Causes.{number_of, place_of, number_in}
use Rattle.refusal.specs.Tests.{◌then◌, room_test, by_outcome}
use Rattle.refusal.specs.Conditions.{Condition, Tested, no_room}
use Rattle.refusal.specs.declared.Cause.{Cause}
use Rattle.refusal.specs.Outcome.{Outcome}
use Rattle.refusal.proofs.TestLaws.{outcome_cases, then_accepted, then_refused, refuse_if_accepted, by_says}
use Rattle.refusal.proofs.ConditionLaws.{join_after, room_tested}
use Rattle.refusal.proofs.CauseLaws.{number_range}
use Rattle.fields.specs.Limits.{Within}
use Rattle.taskset.specs.Promise.{Reads}
use Rattle.fields.specs.declared.Fields.{Fields}
use Rattle.taskset.specs.declared.Reading.{Reading}
use Rattle.storing.specs.Lent.{transfer_by, exit_by, transfer_after, exit_after}
use Rattle.storing.specs.Promise.{Stores, stored_in}
use Rattle.storing.specs.declared.Transfer.{Transfer}

-- there is room where the test accepts
room_there : (cause : Cause) (size room : ℕ) → room_test cause size room ≡ Ok tt → size ≤ room
room_there cause size room e = not_less room size (λ h. true≢false (sym ((less_exactly room size).1 h) ∙ refuse_if_accepted (ltb room size) cause e))

-- The steps of a program that goes by a reading, tests the room, and writes where all tests accept.
module _ (cause : Cause) (bytes : Fields → List ℕ) (size : ℕ → ℕ) (long : (f : Fields) → Within f → length (bytes f) ≡ size f.n)
    (g : Reading) (s : Reads g) (out : List ℕ) {o : Outcome} (p : o ≡ g.outcome then room_test cause (size g.tasks.fields.n) (length out)) where
  abbrev f : Fields
  f = g.tasks.fields

  long_accepted : g.outcome ≡ Ok tt → length (bytes f) ≡ size f.n
  long_accepted q = long f (s.checked q).within

  same_outcome : o ≡ g.outcome then room_test cause (length (bytes f)) (length out)
  same_outcome =
      ⊎_elim
      (λ q. rw (long_accepted q) p)
      (λ q. p ∙ then_refused g.outcome _ q.0 q.1 ∙ sym (then_refused g.outcome _ q.0 q.1))
      (outcome_cases g.outcome)

  accepted_before : o ≡ Ok tt → g.outcome ≡ Ok tt
  accepted_before q = (then_accepted g.outcome _ (sym p ∙ q)).0

  pub store_ready : o ≡ Ok tt → Within f × (size f.n ≤ length out)
  store_ready q = ((s.checked (accepted_before q)).within, room_there cause (size f.n) (length out) (then_accepted g.outcome _ (sym p ∙ q)).1)

  pub store_refused : {c : Cause} {r : Transfer} → o ≡ Err c → r ≡ transfer_by o (size f.n)
      → (r ≡ transfer_after cause g.outcome (bytes f) (length out)) × (out ≡ exit_after cause g.outcome (bytes f) out)
  unfolding transfer_after exit_after transfer_by exit_by by_outcome
  store_refused {c} q e =
      let zero : transfer_by o (size f.n) ≡ transfer_by o (length (bytes f)) = rw q in
      let kept : out ≡ exit_by out o (bytes f) = rw q in
      (e ∙ zero ∙ ap (λ x. transfer_by x (length (bytes f))) same_outcome, kept ∙ ap (λ x. exit_by out x (bytes f)) same_outcome)

  pub store_accepted : {r : Transfer} {after : List ℕ} → o ≡ Ok tt → r ≡ transfer_by o (size f.n) → after ≡ bytes f ++ drop (length (bytes f)) out
      → (r ≡ transfer_after cause g.outcome (bytes f) (length out)) × (after ≡ exit_after cause g.outcome (bytes f) out)
  unfolding transfer_after exit_after transfer_by exit_by by_outcome
  store_accepted q e w =
      let there : bytes f ++ drop (length (bytes f)) out ≡ exit_by out o (bytes f) = rw q in
      (e ∙ ap (transfer_by o) (sym (long_accepted (accepted_before q))) ∙ ap (λ x. transfer_by x (length (bytes f))) same_outcome, w ∙ there ∙ ap (λ x. exit_by out x (bytes f)) same_outcome)

  pub store_same : {after : List ℕ} → o ≡ Ok tt → after ≡ bytes f ++ drop (length (bytes f)) out → length after ≡ length out
  store_same q w =
      rw (w, length-append (bytes f) (drop (length (bytes f)) out), length-drop (length (bytes f)) out)
      (omega (arith, (store_ready q).1, long_accepted (accepted_before q)))

-- Outcomes that are the same, with bytes that are where they accept, give the same answer and output.
module _ (cause : Cause) {o p : Outcome} (e : o ≡ p) {b d : List ℕ} (h : p ≡ Ok tt → b ≡ d) where
  pub transfer_same : (room : ℕ) → transfer_after cause o b room ≡ transfer_after cause p d room
  unfolding transfer_after transfer_by by_outcome
  transfer_same room =
      rw e
      (⊎_elim
      (λ q. rw (h q))
      (λ q. rw (then_refused p (room_test cause (length b) room) q.0 q.1, then_refused p (room_test cause (length d) room) q.0 q.1))
      (outcome_cases p))

  pub output_same : (out : List ℕ) → exit_after cause o b out ≡ exit_after cause p d out
  unfolding exit_after exit_by by_outcome
  output_same out =
      rw e
      (⊎_elim
      (λ q. rw (h q))
      (λ q. rw (then_refused p (room_test cause (length b) (length out)) q.0 q.1, then_refused p (room_test cause (length d) (length out)) q.0 q.1))
      (outcome_cases p))

-- the outcome of an answer is that of all tests
by_outcome_lem : (o : Outcome) (size : ℕ) → (transfer_by o size).outcome ≡ o
unfolding transfer_by
by_outcome_lem o size = by_says _ _ (λ (r : Transfer). r.outcome) (λ c. refl) (λ x. refl) o size

pub transfer_outcome : (cause : Cause) (before : Outcome) (bytes : List ℕ) (room : ℕ) → (transfer_after cause before bytes room).outcome ≡ before then room_test cause (length bytes) room
unfolding transfer_after
transfer_outcome cause before bytes room = by_outcome_lem (before then room_test cause (length bytes) room) (length bytes)

-- The tests before, then number 8, decide.
pub stored-tested : {Good : Type 0} {cs : List Condition} (cause : Cause) → place_of cause ≡ 0 → (before : Outcome) (bytes : List ℕ) (size room : ℕ) → Tested Good cs before
    → (Good → length bytes ≡ size) → Tested (Good × (size ≤ room)) (cs ++ no_room (number_of cause) size room ∷ []) (before then room_test cause (length bytes) room)
stored-tested cause z before bytes size room t long = join_after t (λ n. rw (long (t.valid.0 n)) (room_tested cause z size room))

-- What an answer and an output of the definitions promise.
module _ (cause : Cause) (Form : List ℕ → Type 0) (size : ℕ) (before : Outcome) (bytes out : List ℕ)
    (long : before ≡ Ok tt → length bytes ≡ size) (form : before ≡ Ok tt → (behind : List ℕ) → Form (bytes ++ behind))
    {r : Transfer} {after : List ℕ} (e : r ≡ transfer_after cause before bytes (length out)) (g : after ≡ exit_after cause before bytes out) where
  abbrev all : Outcome
  all = before then room_test cause (length bytes) (length out)

  outcome_is : r.outcome ≡ all
  outcome_is = ap (λ x. x.outcome) e ∙ transfer_outcome cause before bytes (length out)

  -- of an accepted call,
  module _ (q : r.outcome ≡ Ok tt) where
    accepted : all ≡ Ok tt
    accepted = sym outcome_is ∙ q

    pub well : before ≡ Ok tt
    well = (then_accepted before _ accepted).0

    room : length bytes ≤ length out
    room = room_there cause (length bytes) (length out) (then_accepted before _ accepted).1

    length_is : r.length ≡ length bytes
    unfolding transfer_after transfer_by by_outcome
    length_is = ap (λ x. x.length) e ∙ rw accepted

    after_is : after ≡ bytes ++ drop (length bytes) out
    unfolding exit_after exit_by by_outcome
    after_is = g ∙ rw accepted

    pub stored_is : stored_in r after ≡ bytes
    stored_is = rw (length_is, after_is) (take_at bytes (drop (length bytes) out) (length bytes) refl)

  -- and of a refused one
  module _ (n : number_in r.outcome ≡ 0 → ⊥) where
    refused_by : (c : Cause) × (all ≡ Err c)
    refused_by = ⊎_elim (λ q. absurd (n (ap number_in (outcome_is ∙ q)))) (λ q. q) (outcome_cases all)

    length_none : r.length ≡ 0
    unfolding transfer_after transfer_by by_outcome
    length_none = ap (λ x. x.length) e ∙ rw refused_by.1

    after_same : after ≡ out
    unfolding exit_after exit_by by_outcome
    after_same = g ∙ rw refused_by.1

  pub stored_keeps : Stores Form size out r after
  stored_keeps = record {
    returned = λ q. length_is q ∙ long (well q);
    written = λ q. rw (after_is q) (form (well q) (drop (length bytes) out));
    beyond = λ q. rw (after_is q, ← long (well q)) (drop_at bytes (drop (length bytes) out) (length bytes) refl);
    nothing = length_none;
    untouched = after_same;
    whole =
        ⊎_elim
        (λ q. let a = outcome_is ∙ q in rw (after_is a, length-append bytes (drop (length bytes) out), length-drop (length bytes) out) (omega (arith, room a)))
        (λ q. ap length (after_same (λ z. omega (arith, number_range q.0, ap number_in (outcome_is ∙ q.1), z))))
        (outcome_cases all);
  }
