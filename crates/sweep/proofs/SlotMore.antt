-- One slot more at the end of a list of slots: what steps 1 and 2 then name.
use Prim.Native.Nat.{ℕ, zero, suc, ◌+◌, ◌-◌, ◌≤◌, ◌<◌}
use mathlib.Core.Path.{◌≡◌, refl, sym, ap, ◌∙◌}
use mathlib.Core.Logic.{◌≢◌, inl, inr}
use mathlib.Core.Bool.{Bool, true, false, cond, ◌&&◌, ◌||◌, true≢false}
use mathlib.Core.List.{List, [], ◌∷◌, ◌++◌, append-nil}
use native.Mathlib.Omega.{arith}
use native.Mathlib.Nat.{add-zero, add-suc, suc-add}
use lib.Dec.{ltb, eqb}
use lib.ListN.{length, length-append, get_or-append, get_or-eq_default}
use lib.Seq.{get_or-append_seam}
use borrow.Author.Tests.{ne_eqb}
use Rattle.numbers.specs.First.{first, IsFirst}
use Rattle.numbers.proofs.FirstLaws.{Holds, first_zero, first_is, first_clear, first_unique}
use Rattle.edf.specs.declared.Slot.{Slot}
use Rattle.edf.specs.declared.Claim.{Claim}
use Rattle.edf.specs.Slots.{empty_slot, slot_at, slot_test, first_slot, each_from, each}
use Rattle.edf.specs.Earliest.{cons_if, soonest, earliest, In}
use Rattle.edf.specs.Tick.{claims_from, chosen}
use Rattle.edf.proofs.DemandLaws.{split}
use Rattle.edf.proofs.EarliestLaws.{soonest_in}
use Rattle.edf.proofs.ChoiceLaws.{ClaimOf, claim_slot, claims_from_lem}
use Rattle.slots.specs.SoFar.{choice_so_far}
use Rattle.sweep.specs.Sweep.{ChoiceOf}

-- One slot more.
module _ (slots : List Slot) (s : Slot) where
  abbrev more : List Slot
  more = slots ++ (s ∷ [])

  pub more-before : (j : ℕ) → j < length slots → slot_at more j ≡ slot_at slots j
  more-before j h = get_or-append slots (s ∷ []) empty_slot j h

  pub more-here : slot_at more (length slots) ≡ s
  more-here = get_or-append_seam slots s [] empty_slot

  more-after : (j : ℕ) → length slots < j → slot_at more j ≡ empty_slot
  more-after j h = get_or-eq_default more empty_slot (omega (arith, length-append slots (s ∷ [])))

  -- The first slot of which a test holds that holds of no empty one.
  module _ (test : Slot → Bool) (none : test empty_slot ≡ false) (room : length slots < 16) where
    pub first_more : first_slot test more ≡ cond (eqb (first_slot test slots) 0 && test s) (suc (length slots)) (first_slot test slots)
    unfolding first_slot slot_test
    first_more = go (first (slot_test test slots) 16) refl (test s) refl
      where
        now : ℕ → Bool
        now = slot_test test more

        unseen : first (slot_test test slots) 16 ≡ 0 → (j : ℕ) → j < length slots → now j ≡ false
        unseen e j h = ap test (more-before j h) ∙ first_zero (slot_test test slots) 16 e j (omega arith)

        go : (w : ℕ) → first (slot_test test slots) 16 ≡ w → (b : Bool) → test s ≡ b
            → first now 16 ≡ cond (eqb w 0 && b) (suc (length slots)) w
        go (suc k) e b q = elim (split (length slots) k) [
          | inl past ↦ absurd (true≢false (sym f.here ∙ ap test (get_or-eq_default slots empty_slot past) ∙ none))
          | inr h ↦
              rw (ne_eqb (suc k) 0 (λ z. omega arith))
              (first_unique now 16 k (record {
                below = f.below;
                here = ap test (more-before k h) ∙ f.here;
                none = λ j l t. f.none j l (sym (ap test (more-before j (omega arith))) ∙ t);
              }))
        ]
          where
            f : IsFirst (Holds (slot_test test slots)) 16 k
            f = first_is (slot_test test slots) 16 k e
        go zero e true q =
            first_unique now 16 (length slots)
            (record { below = room; here = ap test more-here ∙ q; none = λ j h t. true≢false (sym t ∙ unseen e j h) })
        go zero e false q = first_clear now 16 (λ j h. elim (split (length slots) j) [
          | inr l ↦ unseen e j l
          | inl l ↦ elim (split j (length slots)) [
            | inl m ↦ let same : j ≡ length slots = omega arith in ap test (ap (slot_at more) same ∙ more-here) ∙ q
            | inr m ↦ ap test (more-after j m) ∙ none
          ]
        ])

  -- A change of each slot by a rule that knows its number.
  pub each_more : (f : ℕ → Slot → Slot) → each f more ≡ each f slots ++ (f (suc (length slots)) s ∷ [])
  each_more f = let one : 1 + length slots ≡ suc (length slots) = omega arith in rw one at (from 1 slots)
    where
      from : (k : ℕ) (l : List Slot) → each_from k f (l ++ (s ∷ [])) ≡ each_from k f l ++ (f (k + length l) s ∷ [])
      from k [] = rw (add-zero k) refl
      from k (r ∷ l) = rw (from (suc k) l, suc-add, ← add-suc) refl

-- The choice among some slots as a claim. Its deadline stands for nothing where there is no choice.
abbrev best_of : ℕ → List Claim → Claim
best_of none [] = record { task = 0; deadline = none }
best_of none (c ∷ cs) = soonest c cs

-- a choice, and the best of the claims
chosen_claim : (ready : List Slot) (choice : Claim) → ChoiceOf ready choice → choice ≡ best_of choice.deadline (claims_from 1 ready)
unfolding chosen
chosen_claim ready choice is = go (claims_from 1 ready) (claim_slot 1 ready) is.task_named
  where
    go : (cs : List Claim) → ((c : Claim) → In c cs → ClaimOf 1 ready c) → choice.task ≡ earliest cs → choice ≡ best_of choice.deadline cs
    go [] slot e = λ i. record { task = e i; deadline = choice.deadline }
    go (c ∷ cs) slot e =
        let a : ClaimOf 1 ready (soonest c cs) = slot (soonest c cs) (soonest_in c cs) in
        let at : choice.task - 1 ≡ a.index = omega (arith, e, a.number) in
        let same : choice.deadline ≡ (soonest c cs).deadline = rw at at (is.until (λ z. omega (arith, e, a.number))) ∙ sym a.deadline in
        λ i. record { task = e i; deadline = same i }

claim_chosen : (ready : List Slot) (none : ℕ) → ChoiceOf ready (best_of none (claims_from 1 ready))
unfolding chosen
claim_chosen ready none = record { task_named = named (claims_from 1 ready); until = until (claims_from 1 ready) (claim_slot 1 ready) }
  where
    named : (cs : List Claim) → (best_of none cs).task ≡ earliest cs
    named [] = refl
    named (c ∷ cs) = refl

    until : (cs : List Claim) → ((c : Claim) → In c cs → ClaimOf 1 ready c)
        → (best_of none cs).task ≢ 0 → (best_of none cs).deadline ≡ (slot_at ready ((best_of none cs).task - 1)).until
    until [] slot n = absurd (n refl)
    until (c ∷ cs) slot n =
        let a : ClaimOf 1 ready (soonest c cs) = slot (soonest c cs) (soonest_in c cs) in
        let at : (soonest c cs).task - 1 ≡ a.index = omega (arith, a.number) in
        rw at a.deadline

-- The best of some claims, and one claim more that comes after them.
soonest-more : (c : Claim) (cs : List Claim) (d : Claim) → soonest c (cs ++ (d ∷ [])) ≡ cond (ltb d.deadline (soonest c cs).deadline) d (soonest c cs)
soonest-more c [] d = refl
soonest-more c (b ∷ cs) d = soonest-more (cond (ltb b.deadline c.deadline) b c) cs d

cons_if-append : (b : Bool) (c : Claim) (cs ds : List Claim) → cons_if b c (cs ++ ds) ≡ cons_if b c cs ++ ds
cons_if-append true c cs ds = refl
cons_if-append false c cs ds = refl

claims-more : (k : ℕ) (slots : List Slot) (s : Slot)
    → claims_from k (slots ++ (s ∷ [])) ≡ claims_from k slots ++ cons_if (ltb 0 s.remaining) (record { task = k + length slots; deadline = s.until }) []
claims-more k [] s = rw (add-zero k) refl
claims-more k (r ∷ slots) s =
    rw (claims-more (suc k) slots s, suc-add, ← add-suc) (cons_if-append (ltb 0 r.remaining) _ _ _)

best_more : (none k : ℕ) (s : Slot) (cs : List Claim) → ((c : Claim) → In c cs → 1 ≤ c.task)
    → best_of none (cs ++ cons_if (ltb 0 s.remaining) (record { task = k; deadline = s.until }) []) ≡ choice_so_far (best_of none cs) k s
best_more none k s cs h = go (ltb 0 s.remaining) cs h
  where
    new : Claim
    new = record { task = k; deadline = s.until }

    go : (b : Bool) (cs : List Claim) → ((c : Claim) → In c cs → 1 ≤ c.task)
        → best_of none (cs ++ cons_if b new []) ≡ cond (b && (eqb (best_of none cs).task 0 || ltb s.until (best_of none cs).deadline)) new (best_of none cs)
    go false cs h = ap (best_of none) (append-nil cs)
    go true [] h = refl
    go true (c ∷ cs) h = soonest-more c cs new ∙ rw (ne_eqb (soonest c cs).task 0 (λ q. omega (arith, h (soonest c cs) (soonest_in c cs)))) refl

-- The choice with one slot more.
pub chosen_more : (ready : List Slot) (s : Slot) (choice : Claim) {k : ℕ} → length ready ≡ k → ChoiceOf ready choice
    → ChoiceOf (ready ++ (s ∷ [])) (choice_so_far choice (suc k) s)
chosen_more ready s choice {k} size is =
    let none : ℕ = choice.deadline in
    let next : 1 + length ready ≡ suc k = omega arith in
    let same : best_of none (claims_from 1 (ready ++ (s ∷ []))) ≡ choice_so_far choice (suc k) s =
    ap (best_of none) (rw next at (claims-more 1 ready s))
    ∙ best_more none (suc k) s (claims_from 1 ready) (claims_from_lem 1 ready)
    ∙ ap (λ c. choice_so_far c (suc k) s) (sym (chosen_claim ready choice is)) in
    rw same at (claim_chosen (ready ++ (s ∷ [])) none)
