-- The task that a tick chooses, and what running it does to the demand.
use Prim.Native.Nat.{ℕ, zero, suc, ◌+◌, ◌-◌, ◌≤◌, ◌<◌, zero-le, suc-le-suc}
use mathlib.Core.Path.{◌≡◌, refl, ap, ◌∙◌}
use mathlib.Core.Logic.{◌⊎◌, inl, inr}
use mathlib.Core.Bool.{Bool, true, false}
use mathlib.Core.List.{List, [], ◌∷◌}
use native.Mathlib.Omega.{arith}
use native.Mathlib.Nat.{le_refl, le_trans, add-zero, add-suc, suc-add}
use lib.Dec.{ltb, eqb}
use lib.ListN.{length}
use borrow.Author.Tests.{ltb-true, lt-ltb, eq-eqb, ne_eqb}
use Rattle.numbers.proofs.BoolLaws.{cond_both}
use Rattle.edf.specs.declared.Slot.{Slot}
use Rattle.edf.specs.Slots.{slot_at, each_from, each}
use Rattle.edf.specs.declared.Claim.{Claim}
use Rattle.edf.specs.Earliest.{cons_if, In}
use Rattle.edf.specs.Tick.{claims_from, chosen, ran, run}
use Rattle.edf.proofs.SlotLaws.{total_over, total-each}
use Rattle.edf.proofs.DemandLaws.{split, Active, in_use, jobs, demand_bound, demand_in, demand_out, demand_quiet}
use Rattle.edf.proofs.EarliestLaws.{Rising, claim_task, rising_cons, names-earliest}

pub claims_rising : (k : ℕ) (slots : List Slot) → Rising claim_task k (claims_from k slots)
claims_rising k [] = tt
claims_rising k (s ∷ slots) =
    rising_cons claim_task k (ltb 0 s.remaining) _ (claims_from (suc k) slots) (le_refl k) (claims_rising (suc k) slots)

-- A claim of a list with one more in front, if that is made.
in_cases : {c d : Claim} (b : Bool) (cs : List Claim) → In c (cons_if b d cs) → ((b ≡ true) × (c ≡ d)) ⊎ In c cs
in_cases true cs (inl e) = inl (refl, e)
in_cases true cs (inr h) = inr h
in_cases false cs h = inr h

in_later : (c d : Claim) (b : Bool) (cs : List Claim) → In c cs → In c (cons_if b d cs)
in_later c d true cs h = inr h
in_later c d false cs h = h

-- The slot that makes a claim: it owes ticks.
pub record ClaimOf (k : ℕ) (slots : List Slot) (c : Claim) : Type 0 where
  pub index : ℕ
  pub below : index < length slots
  pub number : c.task ≡ k + index
  pub deadline : c.deadline ≡ (slot_at slots index).until
  pub owes : 0 < (slot_at slots index).remaining

pub claim_slot : (k : ℕ) (slots : List Slot) (c : Claim) → In c (claims_from k slots) → ClaimOf k slots c
claim_slot k [] c h = absurd h
claim_slot k (s ∷ slots) c h = elim (in_cases (ltb 0 s.remaining) (claims_from (suc k) slots) h) [
  | inl m ↦ record {
    index = 0;
    below = suc-le-suc zero-le;
    number = ap claim_task m.1 ∙ omega arith;
    deadline = ap (λ (d : Claim). d.deadline) m.1;
    owes = ltb-true 0 s.remaining m.0;
  }
  | inr m ↦
      let a : ClaimOf (suc k) slots c = claim_slot (suc k) slots c m in
      record { index = suc a.index; below = omega arith; number = omega arith; deadline = a.deadline; owes = a.owes }
]

pub claims_from_lem : (k : ℕ) (slots : List Slot) (c : Claim) → In c (claims_from k slots) → k ≤ c.task
claims_from_lem k slots c h = omega (arith, (claim_slot k slots c h).number)

-- Each such slot claims.
pub slot_claim : (k : ℕ) (slots : List Slot) (i : ℕ) → 0 < (slot_at slots i).remaining
    → In (record { task = k + i; deadline = (slot_at slots i).until }) (claims_from k slots)
slot_claim k [] i h = absurd (omega arith)
slot_claim k (s ∷ slots) zero h = rw (lt-ltb 0 s.remaining h, add-zero k) (inl refl)
slot_claim k (s ∷ slots) (suc i) h =
    rw (add-suc k i, ← suc-add k i)
    (in_later _ _ (ltb 0 s.remaining) (claims_from (suc k) slots) (slot_claim (suc k) slots i h))

-- The task that runs owes ticks.
pub chosen_owes : (slots : List Slot) (i : ℕ) → 1 + i ≡ chosen slots → 0 < (slot_at slots i).remaining
unfolding chosen
chosen_owes slots i e = elim (names-earliest 1 (claims_from 1 slots) (claims_rising 1 slots)) [
  | inl n ↦ absurd (omega arith)
  | inr n ↦
      let a : ClaimOf 1 slots n.0 = claim_slot 1 slots n.0 n.1.claims in
      let same : a.index ≡ i = omega arith in
      rw same at a.owes
]

run-below : (k j : ℕ) (slots : List Slot) → j < k → each_from k (run j) slots ≡ slots
run-below k j [] h = refl
run-below k j (s ∷ slots) h = rw (ne_eqb k j (λ e. omega arith), run-below (suc k) j slots (omega arith)) refl

module _ (charge : ℕ) where
  run-demand : (x j k : ℕ) (s : Slot) → demand_bound charge x (run j k s) ≤ demand_bound charge x s
  run-demand x j k s =
      cond_both (λ r. demand_bound charge x r ≤ demand_bound charge x s) (eqb k j) (ran s) s (elim (split s.until x) [
        | inl h ↦ omega (arith, demand_in charge x s h, demand_in charge x (ran s) h)
        | inr h ↦ omega (arith, demand_out charge x (ran s) h)
      ]) (le_refl (demand_bound charge x s))

  -- Running a task that claims takes one from the demand at each horizon from its deadline on.
  run_drops : (k : ℕ) (slots : List Slot) (c : Claim) (x : ℕ) → In c (claims_from k slots) → c.deadline ≤ x
      → total_over (demand_bound charge x) (each_from k (run c.task) slots) < total_over (demand_bound charge x) slots
  run_drops k [] c x h l = absurd h
  run_drops k (s ∷ slots) c x h l = elim (in_cases (ltb 0 s.remaining) (claims_from (suc k) slots) h) [
    | inl m ↦
        let at : s.until ≤ x = rw m.1 at l in
        rw (m.1, eq-eqb k k refl, run-below (suc k) k slots (le_refl (suc k)))
        (omega (arith, ltb-true 0 s.remaining m.0, demand_in charge x s at, demand_in charge x (ran s) at))
    | inr m ↦
        rw (ne_eqb k c.task (λ e. omega (arith, claims_from_lem (suc k) slots c m)))
        (omega (arith, run_drops (suc k) slots c x m l))
  ]

  pub run_active : (j k : ℕ) (s : Slot) → Active charge s → Active charge (run j k s)
  run_active j k s a = cond_both (Active charge) (eqb k j) (ran s) s (elim a [
    | inl m ↦ inl (ap ran m)
    | inr w ↦ inr (w.0, in_use charge (s.until - 1) _ w.1 w.1.until_in (omega (arith, w.1.remaining_in)))
  ]) a

  -- The tick goes to the earliest deadline: the demand at each horizon y + 1 falls to y.
  pub serves : (slots : List Slot) (y : ℕ) → ((i : ℕ) → Active charge (slot_at slots i)) → total_over (jobs charge y) slots ≤ y
      → total_over (demand_bound charge (suc y)) slots ≤ suc y
      → total_over (demand_bound charge (suc y)) (each (run (chosen slots)) slots) ≤ y
  unfolding chosen
  serves slots y a r d = elim (names-earliest 1 (claims_from 1 slots) (claims_rising 1 slots)) [
    | inl n ↦ still _ (rw n.0 (λ c m. absurd m))
    | inr n ↦ rw n.2 (elim (split n.0.deadline (suc y)) [
      | inl h ↦ omega (arith, run_drops 1 slots n.0 (suc y) n.1.claims h)
      | inr h ↦ still n.0.task (λ d m. omega (arith, n.1.least d m))
    ])
  ]
    where
      -- Where no claim is due up to the horizon, the demand is of whole jobs in the ticks after this one.
      still : (j : ℕ) → ((c : Claim) → In c (claims_from 1 slots) → suc y < c.deadline)
          → total_over (demand_bound charge (suc y)) (each (run j) slots) ≤ y
      still j h =
          total-each (demand_bound charge (suc y)) (jobs charge y) (run j) 1 slots
          (λ k i. le_trans (run-demand (suc y) j k (slot_at slots i))
          (demand_quiet charge y (slot_at slots i) (a i) (λ p. h _ (slot_claim 1 slots i p)))) y r
