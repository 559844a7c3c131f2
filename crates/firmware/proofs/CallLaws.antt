-- The firmware's call: its tests decide, and the promise at each end of the program.
use Rattle.std.specs.Prelude.{Ok, Err}
use Prim.Native.Nat.{ℕ, ◌+◌, ◌≤◌, ◌<◌}
use mathlib.Core.Path.{◌≡◌, refl, sym, ◌∙◌, ap}
use mathlib.Core.List.{List, ◌++◌}
use mathlib.Core.Logic.{⊎_elim, ◌≢◌}
use lib.ListN.{length, take, drop}
use lib.Seq.{take_at, drop_at}
use native.Mathlib.Omega.{arith}
use Rattle.numbers.proofs.RowLaws.{length-row}
use Rattle.wire.specs.Bytes.{over}
use Rattle.wire.proofs.LentLaws.{front_put}
use Rattle.refusal.specs.Causes.{number_of, place_of, number_in}
use Rattle.refusal.specs.Tests.{◌then◌, room_test}
use Rattle.refusal.specs.declared.Cause.{Cause}
use Rattle.refusal.specs.declared.Cause.TheVariants.{Buffer}
use Rattle.refusal.specs.Outcome.{Outcome}
use Rattle.refusal.proofs.CauseLaws.{number_range}
use Rattle.refusal.proofs.TestLaws.{accepted≢refused, outcome_cases, then_accepted, by_accepted, by_refused}
use Rattle.refusal.proofs.ConditionLaws.{none_first, first-given}
use Rattle.taskset.specs.Promise.{Checked, Reads}
use Rattle.taskset.specs.Table.{Table, reading_of, Sound}
use Rattle.fields.specs.declared.Fields.{Fields}
use Rattle.taskset.specs.declared.Reading.{Reading}
use Rattle.taskset.proofs.TableLaws.{lent_sound, table_accepts, table_within, also_read, also-fields}
use Rattle.newform.specs.Limits.{new}
use Rattle.newform.proofs.NewLaws.{new_sound}
use Rattle.plans.proofs.SafeLaws.{demands_long}
use Rattle.planner.specs.Plan.{allocation_of, plan_for, refused_plan, verdict_outcome}
use Rattle.planner.specs.Promise.{Promise}
use Rattle.planner.proofs.PlanLaws.{plan_accepted_is, plan_refused_is}
use Rattle.planner.proofs.PromiseLaws.{promised, planned_says}
use Rattle.planner.specs.declared.Allocation.{Allocation}
use Rattle.planner.specs.declared.Verdict.{Verdict}
use Rattle.planner.specs.declared.Verdict.TheVariants.{All, Short, Spent, Refused}
use Rattle.firmware.specs.Call.{with_buffer, called, code_of, code_for, buffer_after}
use Rattle.firmware.specs.Service.{Answers, Keeps}

-- The table's numbers, then 8, decide.
pub buffer_sound : {t : Table} → Sound t → (room : ℕ) → Sound (with_buffer t room)
buffer_sound {t} s room = lent_sound s Buffer refl t.fields.n room

pub called_sound : (s : List ℕ) (room : ℕ) → Sound (called s room)
called_sound s room = buffer_sound (new_sound s) room

-- a verdict that is no refusal has a code of at most 2: 2 for spent, and else 0 for all
code_planned : (v : Verdict) → verdict_outcome v ≡ Ok tt → code_of v ≤ 2
unfolding verdict_outcome
code_planned All e = omega arith
code_planned Short e = omega arith
code_planned Spent e = omega arith
code_planned (Refused c) e = absurd (accepted≢refused e refl)

code_spent : (v : Verdict) → code_of v ≡ 2 → v ≡ Spent
code_spent All e = absurd (omega arith)
code_spent Short e = absurd (omega arith)
code_spent Spent e = refl
code_spent (Refused c) e = absurd (omega arith)

code_all : (v : Verdict) → code_of v ≡ 0 → v ≡ All
code_all All e = refl
code_all Short e = absurd (omega arith)
code_all Spent e = absurd (omega arith)
code_all (Refused c) e = absurd (omega arith)

-- The steps of the program.
pub code_fits : (k : ℕ) (c : Cause) {x : ℕ} → k ≤ 1000 → x ≡ number_of c → k + x < 4294967296
code_fits k c h e = omega (arith, (number_range c).1)

pub code_refused : {v : Verdict} {c : Cause} {x : ℕ} → x ≡ number_of c → v ≡ Refused c → 100 + x ≡ code_of v
code_refused e q = rw (q, e)

-- a plan has sixteen core numbers
placement_long : (f : Fields) (limit : ℕ) → length (plan_for f limit).placement ≡ 16
unfolding plan_for allocation_of
placement_long f limit = length-row 0 f.n _

-- ---- code and buffer, by the outcome of the tests

module _ (t : Table) (limit : ℕ) (buffer : List ℕ) where
  -- of a refused call,
  module _ {c : Cause} (q : t.outcome ≡ Err c) where
    code_refused_is : code_for t limit ≡ code_of (Refused c)
    unfolding code_for refused_plan
    code_refused_is = ap (λ a. code_of a.verdict) (plan_refused_is t limit q)

    buffer_refused_is : buffer_after t limit buffer ≡ buffer
    unfolding buffer_after
    buffer_refused_is = by_refused _ _ t.fields q

  -- and of an accepted one
  module _ (q : t.outcome ≡ Ok tt) where
    pub code_accepted_is : code_for t limit ≡ code_of (plan_for t.fields limit).verdict
    unfolding code_for
    code_accepted_is = ap (λ a. code_of a.verdict) (plan_accepted_is t limit q)

    pub buffer_accepted_is : buffer_after t limit buffer ≡ take t.fields.n (plan_for t.fields limit).placement ++ drop t.fields.n buffer
    unfolding buffer_after
    buffer_accepted_is = by_accepted _ _ t.fields q

-- ---- the steps of the program

module _ (s : List ℕ) (room : ℕ) {g : Reading} (e : g ≡ reading_of (new s)) {fits : Outcome} (f : fits ≡ room_test Buffer g.tasks.fields.n room)
    {o : Outcome} (p : o ≡ g.outcome then fits) where
  tests : Fields → Outcome
  tests h = room_test Buffer h.n room

  both : o ≡ g.outcome then tests g.tasks.fields
  unfolding tests
  both = rw (← f) p

  same : o ≡ (called s room).outcome
  unfolding tests
  same = also_read (new s) e tests both

  -- what an accepted call is given: a checked task set, and room for its n core numbers
  module _ (q : o ≡ Ok tt) where
    pub call_checked : Reads g → Checked g.tasks
    call_checked r = r.checked (then_accepted _ _ (sym p ∙ q)).0

    fields_are : g.tasks.fields ≡ (new s).fields
    unfolding tests
    fields_are = also-fields (new s) e tests both q

    pub call_fits : (g.tasks.fields.n ≤ 16) × (0 + g.tasks.fields.n ≤ room)
    call_fits =
        let valid : (called s room).Valid = (table_accepts (called_sound s room)).0 (sym same ∙ q) in
        rw fields_are (((new_sound s).within valid.0).sizes.tasks.1, omega (arith, valid.1))

module _ (s : List ℕ) (limit : ℕ) (buffer : List ℕ) {g : Reading} (e : g ≡ reading_of (new s)) {fits : Outcome}
    (f : fits ≡ room_test Buffer g.tasks.fields.n (length buffer)) {o : Outcome} (p : o ≡ g.outcome then fits) where
  abbrev t : Table
  t = called s (length buffer)

  outcome_is : o ≡ t.outcome
  outcome_is = same s (length buffer) e f p

  pub call_refused : {c : Cause} {code : ℕ} → o ≡ Err c → code ≡ code_of (Refused c) → (code ≡ code_for t limit) × (buffer ≡ buffer_after t limit buffer)
  call_refused q h = (h ∙ sym (code_refused_is t limit buffer (sym outcome_is ∙ q)), sym (buffer_refused_is t limit buffer (sym outcome_is ∙ q)))

  pub call_planned : o ≡ Ok tt → {r : Allocation} → r ≡ plan_for g.tasks.fields limit → {code : ℕ} {after : List ℕ} → code ≡ code_of r.verdict
      → after ≡ over buffer 0 (take g.tasks.fields.n r.placement) → (code ≡ code_for t limit) × (after ≡ buffer_after t limit buffer)
  call_planned q {r} w h x =
      let is : g.tasks.fields ≡ t.fields = fields_are s (length buffer) e f p q in
      let enough : g.tasks.fields.n ≤ length r.placement = rw (w, placement_long g.tasks.fields limit) (call_fits s (length buffer) e f p q).0 in
      let plan_is : r ≡ plan_for t.fields limit = w ∙ ap (λ y. plan_for y limit) is in (
        h ∙ ap (λ a. code_of a.verdict) plan_is ∙ sym (code_accepted_is t limit buffer (sym outcome_is ∙ q)),
        front_put buffer r.placement g.tasks.fields.n enough x
            ∙ ap (λ y. take y.n r.placement ++ drop y.n buffer) is
            ∙ ap (λ a. take t.fields.n a.placement ++ drop t.fields.n buffer) plan_is
            ∙ sym (buffer_accepted_is t limit buffer (sym outcome_is ∙ q)),
      )

-- ---- what the definitions promise

module _ {t : Table} (s : Sound t) (limit : ℕ) (buffer : List ℕ) where
  -- of a refused call,
  refused_answers : (c : Cause) → t.outcome ≡ Err c → Answers t buffer (code_of (Refused c)) buffer
  refused_answers c q = record {
    accepted = (λ g. absurd (omega arith), λ v. absurd (accepted≢refused ((table_accepts s).1 v) q));
    refused = λ k. (
      λ g. let d : k ≡ number_of c = omega arith in (place_of c, rw d (s.tested.reports.refused c q)),
      λ x. ap (λ y. 100 + y) (ap number_in (sym q) ∙ (first-given s.tested.reports x.1).0),
    );
    untouched = λ g. refl;
  }

  -- and of an accepted one
  module _ (q : t.outcome ≡ Ok tt) where
    plan : Allocation
    plan = plan_for t.fields limit

    after : List ℕ
    after = take t.fields.n plan.placement ++ drop t.fields.n buffer

    small : code_of plan.verdict ≤ 2
    unfolding plan
    small = code_planned plan.verdict (planned_says t.fields limit)

    planned_answers : Answers t buffer (code_of plan.verdict) after
    planned_answers = record {
      accepted = (λ g. (table_accepts s).0 q, λ g. small);
      refused = λ k. (
        λ g. absurd (omega (arith, small)),
        λ x. absurd (none_first t.conditions k x.0 (s.tested.reports.accepted q) x.1),
      );
      untouched = λ g. absurd (omega (arith, small));
    }

    kept : Promise t.fields limit plan
    unfolding plan
    kept = promised t.fields (table_within s q) limit

    front_long : length (take t.fields.n plan.placement) ≡ t.fields.n
    front_long = kept.safe.feasible.whole ∙ demands_long t.fields (table_within s q)

    planned_keeps : Keeps t buffer limit (code_of plan.verdict) after
    unfolding after
    planned_keeps = record {
      spent = (λ x. kept.spent.0 (code_spent plan.verdict x), λ x. ap code_of (kept.spent.1 x));
      all = λ n.
          let u : plan.verdict ≢ Spent = λ x. n (ap code_of x) in
          (λ x. (kept.all u).0 (code_all plan.verdict x), λ x. ap code_of ((kept.all u).1 x));
      plan = plan;
      promise = kept;
      written = take_at (take t.fields.n plan.placement) (drop t.fields.n buffer) t.fields.n front_long;
      beyond = drop_at (take t.fields.n plan.placement) (drop t.fields.n buffer) t.fields.n front_long;
    }

  pub call_answers : Answers t buffer (code_for t limit) (buffer_after t limit buffer)
  unfolding plan after
  call_answers =
      ⊎_elim
      (λ q. rw (code_accepted_is t limit buffer q, buffer_accepted_is t limit buffer q) (planned_answers q))
      (λ q. rw (code_refused_is t limit buffer q.1, buffer_refused_is t limit buffer q.1) (refused_answers q.0 q.1))
      (outcome_cases t.outcome)

  pub call_keeps : code_for t limit ≤ 2 → Keeps t buffer limit (code_for t limit) (buffer_after t limit buffer)
  unfolding plan after
  call_keeps h =
      let q = (table_accepts s).1 (call_answers.accepted.0 h) in
      rw (code_accepted_is t limit buffer q, buffer_accepted_is t limit buffer q) (planned_keeps q)

-- Code and buffer that equal the definitions keep the demands.
pub entry-all : {t : Table} → Sound t → {limit : ℕ} {buffer : List ℕ} {code : ℕ} {after : List ℕ} → (code ≡ code_for t limit) × (after ≡ buffer_after t limit buffer)
    → (code ≡ code_for t limit) × ((after ≡ buffer_after t limit buffer) × (Answers t buffer code after × (code ≤ 2 → Keeps t buffer limit code after)))
entry-all s {limit} {buffer} e = (e.0, (e.1, (rw (e.0, e.1) (call_answers s limit buffer), rw (e.0, e.1) (call_keeps s limit buffer))))
