-- The pass over the slots of a record: what holds after one slot more, and after all of them.
use Prim.Native.Nat.{ℕ, suc, ◌+◌, ◌-◌, ◌≤◌, ◌<◌}
use mathlib.Core.Path.{◌≡◌, refl, sym, ap, subst, ◌∙◌}
use mathlib.Core.Logic.{◌≢◌, inl, inr, ⊎_elim}
use mathlib.Core.Bool.{true, false, cond, ◌&&◌, and-false}
use mathlib.Core.List.{List, [], ◌∷◌, ◌++◌}
use native.Mathlib.Omega.{arith}
use native.Mathlib.Numerals.{add-one}
use lib.Dec.{eqb}
use lib.ListN.{length, get_or, take, set, length-set}
use lib.Seq.{length-take-le, take_all, take-suc, get_or-set_same, get_or-set_other, set-get_or, ext_get_or}
use Rattle.numbers.proofs.BoolLaws.{cond_both}
use Rattle.numbers.proofs.FirstLaws.{first_clear}
use Rattle.edf.specs.declared.Slot.{Slot}
use Rattle.edf.specs.declared.Claim.{Claim}
use Rattle.edf.specs.Slots.{empty_slot, slot_at, slot_test, first_slot, each}
use Rattle.edf.specs.Tick.{owed_for, due, late as is_late, first_late, released, release, release_all, chosen, advanced, advance}
use Rattle.edf.proofs.DemandLaws.{split, due_now, due-later, advance-occupied}
use Rattle.edf.proofs.SlotLaws.{each_at, length-each}
use Rattle.edf.proofs.SlotSteps.{ready-length}
use Rattle.edf.proofs.ChoiceLaws.{ClaimOf, claim_slot}
use Rattle.edf.proofs.NamingLaws.{chosen-names}
use Rattle.slots.specs.SoFar.{late_so_far, choice_so_far}
use Rattle.sweep.specs.Sweep.{AllCanBe, ChoiceOf, ready_so_far, AfterSlots, Passing}
use Rattle.slots.proofs.ReadLaws.{get_d_any}
use Rattle.sweep.proofs.SlotMore.{more-before, more-here, first_more, each_more, chosen_more}

-- One slot more of the pass.
module _ {charge : ℕ} {requests : List ℕ} {slots now : List Slot} {i to late : ℕ} {choice : Claim}
    (past : Passing charge requests slots i to now late choice) (h : i < to) where
  a : AfterSlots charge requests slots i now late choice
  a = past.after

  size : length slots ≡ 16
  size = past.sixteen

  here : i < 16
  here = omega (arith, past.within)

  abbrev before : Slot
  before = slot_at slots i

  abbrev after : Slot
  after = release charge requests (suc i) before

  abbrev ready : ℕ → List Slot
  ready = ready_so_far charge requests slots

  so_many : length (take i slots) ≡ i
  so_many = length-take-le i slots (omega (arith, size, here))

  so_many_ready : length (ready i) ≡ i
  so_many_ready = ready-length charge requests (take i slots) ∙ so_many

  slots_more : take (i + 1) slots ≡ take i slots ++ (before ∷ [])
  slots_more = rw add-one (take-suc slots i empty_slot (omega (arith, size, here)))

  ready-more : ready (i + 1) ≡ ready i ++ (after ∷ [])
  unfolding release_all
  ready-more = rw slots_more (rw so_many at (each_more (take i slots) before (release charge requests)))

  ready-before : (j : ℕ) → j < i → slot_at (ready (i + 1)) j ≡ slot_at (ready i) j
  ready-before j l = ap (λ r. slot_at r j) ready-more ∙ more-before (ready i) after j (omega (arith, so_many_ready))

  ready-here : slot_at (ready (i + 1)) i ≡ after
  ready-here = ap (λ r. slot_at r i) ready-more ∙ rw so_many_ready at (more-here (ready i) after)

  pass_slot : {next : List Slot} {late₁ : ℕ} {choice₁ : Claim} → next ≡ set now i (advance (suc i) after)
      → late₁ ≡ cond (eqb late 0 && is_late before) (suc i) late → choice₁ ≡ choice_so_far choice (suc i) after
      → Passing charge requests slots (i + 1) to next late₁ choice₁
  pass_slot {next} {late₁} {choice₁} en el ec =
      let is : ChoiceOf (ready (i + 1)) choice₁ =
      rw (ready-more, ec) (chosen_more (ready i) after choice so_many_ready a.choice_named) in
      record {
        can_be = past.can_be;
        sixteen = size;
        upward = omega arith;
        within = past.within;
        after = record {
          late_named =
              rw a.late_named at el
              ∙ sym (ap first_late slots_more ∙ rw so_many at (first_more (take i slots) before is_late refl (omega (arith, so_many))));
          choice_named = is;
          passed = λ j l. elim (split i j) [
            | inl g ↦
                let same : j ≡ i = omega arith in
                rw (en, same, ready-here) (get_or-set_same now i _ empty_slot (omega (arith, a.sixteen)))
            | inr g ↦
                rw (en, ready-before j g) (get_or-set_other now i j _ empty_slot (λ e. omega arith) ∙ a.passed j g)
          ];
          untouched = λ j l. rw en (get_or-set_other now i j _ empty_slot (λ e. omega arith)) ∙ a.untouched j (omega arith);
          sixteen = rw en (length-set now i _ ∙ a.sixteen);
        };
      }

  -- the slot as it is read
  read : (d : Slot) → get_or now i d ≡ before
  read d = get_d_any now i d empty_slot (omega (arith, a.sixteen, here)) ∙ a.untouched i (omega arith)

  -- an empty slot stays as it is
  pub pass_empty : (d : Slot) {next : List Slot} {late₁ : ℕ} {choice₁ : Claim} → (get_or now i d).period ≡ 0
      → next ≡ now → late₁ ≡ late → choice₁ ≡ choice → Passing charge requests slots (i + 1) to next late₁ choice₁
  unfolding release
  pass_empty d z en el ec = elim (past.can_be i here) [
    | inl e ↦
        let empty : after ≡ empty_slot = rw e refl in
        pass_slot
        (en ∙ rw (empty, ← e, ← a.untouched i (omega arith)) (sym (set-get_or now i empty_slot)))
        (el ∙ rw (e, and-false (eqb late 0)) refl)
        (ec ∙ rw empty refl)
    | inr u ↦ absurd (omega (arith, u.period_in, rw (read d) at z))
  ]

  -- an occupied slot has room for its budget and the charge
  pub pass_cost : (d : Slot) → (get_or now i d).period ≢ 0 → (get_or now i d).budget + charge ≤ 10000
  pass_cost d p = elim (past.can_be i here) [
    | inl e ↦ absurd (p (rw (read d, e) refl))
    | inr u ↦ rw (read d) (omega (arith, u.period_in, u.budget_in))
  ]

  occupied : (d : Slot) → (get_or now i d).period ≢ 0 → 0 < before.period
  occupied d p = let q : before.period ≢ 0 = rw (read d) at p in omega (arith, q)

  -- an occupied slot, which is s once it is released if it is due
  module _ (d : Slot) (p : (get_or now i d).period ≢ 0) {s y : Slot} {next : List Slot} {late₁ : ℕ} {choice₁ : Claim}
      (en : next ≡ set now i y) (ey : y ≡ advanced s) (ec : choice₁ ≡ choice_so_far choice (i + 1) s) where
    pass_occupied : s ≡ after → late₁ ≡ cond (eqb late 0 && is_late before) (suc i) late → Passing charge requests slots (i + 1) to next late₁ choice₁
    unfolding release
    pass_occupied es el =
        let still : 0 < after.period = cond_both (λ (t : Slot). 0 < t.period) (due before) _ _ (occupied d p) (occupied d p) in
        pass_slot (en ∙ ap (set now i) (ey ∙ ap advanced es ∙ sym (advance-occupied (suc i) after still))) el (rw (add-one, es) at ec)

    pub pass_due : (get_or now i d).until ≡ 0 → s ≡ released (get_or now i d) (owed_for charge (get_or now i d).budget (get_or requests i 0))
        → late₁ ≡ late_so_far late (i + 1) (get_or now i d) → Passing charge requests slots (i + 1) to next late₁ choice₁
    unfolding release
    pass_due u es el =
        let yes : due before ≡ true = due_now before (occupied d p) (rw (read d) at u) in
        let back : suc i - 1 ≡ i = omega arith in
        pass_occupied (rw (read d) at es ∙ rw (yes, back) refl) (rw (add-one, read d) at el ∙ rw yes refl)

    pub pass_kept : (get_or now i d).until ≢ 0 → s ≡ get_or now i d → late₁ ≡ late → Passing charge requests slots (i + 1) to next late₁ choice₁
    unfolding release
    pass_kept u es el =
        let q : before.until ≢ 0 = rw (read d) at u in
        let no : due before ≡ false = due-later before (omega (arith, q)) in
        pass_occupied (es ∙ read d ∙ rw no refl) (el ∙ rw (no, and-false) refl)

-- A part of the pass at slot i, where the slots up to `from` left now₀, late₀ and choice₀: what was asked with holds of some record, and what held
-- of any record there still holds.
pub record Still (charge : ℕ) (requests : List ℕ) (from to : ℕ) (now₀ : List Slot) (late₀ : ℕ) (choice₀ : Claim)
    (i : ℕ) (now : List Slot) (late : ℕ) (choice : Claim) : Type 0 where
  pub record_before : List Slot
  pub holds : Passing charge requests record_before i to now late choice
  pub each : (slots : List Slot) → Passing charge requests slots from to now₀ late₀ choice₀ → Passing charge requests slots i to now late choice

-- one slot more keeps it if it does so for every record
pub still_more : {charge : ℕ} {requests : List ℕ} {from to : ℕ} {now₀ : List Slot} {late₀ : ℕ} {choice₀ : Claim}
    {i : ℕ} {now : List Slot} {late : ℕ} {choice : Claim} {next : List Slot} {late₁ : ℕ} {choice₁ : Claim}
    → Still charge requests from to now₀ late₀ choice₀ i now late choice
    → ((slots : List Slot) → Passing charge requests slots i to now late choice → Passing charge requests slots (i + 1) to next late₁ choice₁)
    → Still charge requests from to now₀ late₀ choice₀ (i + 1) next late₁ choice₁
still_more s more = record {
  record_before = s.record_before;
  holds = more s.record_before s.holds;
  each = λ slots p. more slots (s.each slots p);
}

-- Before the pass, and at the end of a part of it.
pub pass_start : (charge : ℕ) (requests : List ℕ) (slots : List Slot) → length slots ≡ 16 → AllCanBe charge slots
    → Passing charge requests slots 0 16 slots 0 (record { task = 0; deadline = 0 })
unfolding chosen release_all first_slot slot_test
pass_start charge requests slots size good = record {
  can_be = good;
  sixteen = size;
  upward = omega arith;
  within = omega arith;
  after = record {
    late_named = sym (first_clear (slot_test is_late []) 16 (λ j h. refl));
    choice_named = record { task_named = refl; until = λ n. absurd (n refl) };
    passed = λ j h. absurd (omega arith);
    untouched = λ j h. refl;
    sixteen = size;
  };
}

pub pass_done : {charge : ℕ} {requests : List ℕ} {slots now : List Slot} {i to late : ℕ} {choice : Claim}
    → Passing charge requests slots i to now late choice → to ≤ i → AfterSlots charge requests slots to now late choice
pass_done {charge} {requests} {slots} {now} {i} {to} {late} {choice} p h =
    subst (λ (k : ℕ). AfterSlots charge requests slots k now late choice) (omega (arith, p.upward)) p.after

-- What the whole pass leaves.
module _ {charge : ℕ} {requests : List ℕ} {slots now : List Slot} {late : ℕ} {choice : Claim} (size : length slots ≡ 16)
    (a : AfterSlots charge requests slots 16 now late choice) where
  all : take 16 slots ≡ slots
  all = take_all 16 slots (omega arith)

  pub swept_late : late ≡ first_late slots
  swept_late = rw all at a.late_named

  pub swept_run : choice.task ≡ chosen (release_all charge requests slots)
  swept_run = rw all at a.choice_named.task_named

  pub swept_slots : now ≡ each advance (release_all charge requests slots)
  swept_slots =
      let ready : List Slot = release_all charge requests slots in
      let sixteen : length ready ≡ 16 = ready-length charge requests slots ∙ size in
      ext_get_or empty_slot now (each advance ready) (a.sixteen ∙ sym (length-each advance 1 ready ∙ sixteen))
      (λ j h. rw all at (a.passed j (omega (arith, a.sixteen))) ∙ sym (each_at advance (λ k. refl) ready j))

  pub swept_bound : choice.task ≤ 16
  swept_bound =
      let ready : List Slot = release_all charge requests slots in
      let sixteen : length ready ≡ 16 = ready-length charge requests slots ∙ size in
      ⊎_elim
      (λ n. omega (arith, swept_run, n.1))
      (λ n. let c : ClaimOf 1 ready n.0 = claim_slot 1 ready n.0 n.1.claims in omega (arith, swept_run, n.2, c.number, c.below))
      (chosen-names ready)
