-- The demand bound: what the slots owe up to a horizon, and what a release and the advance of a tick do to it.
use Prim.Native.Nat.{ℕ, zero, suc, ◌+◌, ◌*◌, ◌-◌, ◌/◌, ◌≤◌, ◌<◌, min, zero-le, suc-le-suc}
use mathlib.Core.Path.{◌≡◌, refl, ◌∙◌}
use mathlib.Core.Logic.{◌⊎◌, inl, inr}
use mathlib.Core.Bool.{true, false, not, cond, and-false}
use mathlib.Core.List.{List}
use native.Mathlib.Omega.{arith}
use native.Mathlib.Nat.{le_refl, le_trans, div-zero, div-eq-sub-div, div-mul-le_self, le-div_iff_mul-le, mul-le-mul_right, eq-zero-or-pos, min-le_right, add-zero, add-le-add, sub-zero}
use native.Mathlib.Decide.{dec_le}
use lib.Dec.{leb, eqb}
use borrow.Author.Tests.{le-leb, lt-leb, eq-eqb, ne_eqb}
use Rattle.numbers.proofs.BoolLaws.{cond_both}
use Rattle.edf.specs.declared.Slot.{Slot}
use Rattle.edf.specs.Slots.{empty_slot, InUse, CanBe}
use Rattle.edf.specs.Tick.{request, owed_for, due, released, release, advanced, advance}

pub split : (a b : ℕ) → (a ≤ b) ⊎ (b < a)
split a b = elim (dec_le a b) [ yes h ↦ inl h | no h ↦ inr (omega arith) ]

div_mono : (p a b : ℕ) → a ≤ b → a / p ≤ b / p
div_mono zero a b h = rw (div-zero a, div-zero b) zero-le
div_mono (suc p) a b h = (le-div_iff_mul-le (suc-le-suc zero-le)).1 (le_trans (div-mul-le_self a (suc p)) h)

-- The test for a release, by cases.
pub due_now : (s : Slot) → 0 < s.period → s.until ≡ 0 → due s ≡ true
due_now s h e = rw (ne_eqb s.period 0 (λ q. omega arith), eq-eqb s.until 0 e) refl

pub due-later : (s : Slot) → 0 < s.until → due s ≡ false
due-later s h = rw (ne_eqb s.until 0 (λ q. omega arith)) (and-false (not (eqb s.period 0)))

-- The advance of an occupied slot.
pub advance-occupied : (k : ℕ) (s : Slot) → 0 < s.period → advance k s ≡ advanced s
advance-occupied k s h = rw (ne_eqb s.period 0 (λ q. omega arith)) refl

-- Where there is no charge a task is owed the smaller of request and budget.
pub owed_uncharged : (budget asked : ℕ) → owed_for 0 budget asked ≡ min asked budget
unfolding owed_for
owed_uncharged budget asked =
    cond_both (λ n. min asked budget + n ≡ min asked budget) (eqb asked 0) 0 0 (add-zero _) (add-zero _)

-- A task is owed at most its budget and the charge.
pub owed_most : (charge budget asked : ℕ) → owed_for charge budget asked ≤ budget + charge
unfolding owed_for
owed_most charge budget asked =
    add-le-add (min-le_right _ budget) (cond_both (λ x. x ≤ charge) (eqb asked 0) _ _ (omega arith) (omega arith))

module _ (charge : ℕ) where
  -- A slot that can be is one between two ticks; within a tick, after its releases, the next release is ahead of it.
  abbrev pub Active : Slot → Type 0
  Active s = (s ≡ empty_slot) ⊎ ((0 < s.until) × InUse charge (advanced s))

  -- a slot in use, with other ticks until release and other ticks owed
  pub in_use : {s : Slot} (u r : ℕ) → InUse charge s → u < s.period → r ≤ s.budget + charge
      → InUse charge (record { period = s.period; budget = s.budget; until = u; remaining = r })
  in_use u r w l m = record { period_in = w.period_in; budget_in = w.budget_in; until_in = l; remaining_in = m }

  -- the jobs of a slot that fit whole into y ticks, at full cost
  abbrev pub jobs : ℕ → Slot → ℕ
  jobs y s = y / s.period * (s.budget + charge)

  -- what a slot owes at deadlines up to x ticks from now, if each job to come asks for its whole budget
  unfoldable pub demand_bound : ℕ → Slot → ℕ
  demand_bound x s = cond (leb s.until x) (s.remaining + (x - s.until) / s.period * (s.budget + charge)) 0

  pub demand_in : (x : ℕ) (s : Slot) → s.until ≤ x → demand_bound x s ≡ s.remaining + (x - s.until) / s.period * (s.budget + charge)
  unfolding demand_bound
  demand_in x s h = rw (le-leb s.until x h) refl

  pub demand_out : (x : ℕ) (s : Slot) → x < s.until → demand_bound x s ≡ 0
  unfolding demand_bound
  demand_out x s h = rw (lt-leb s.until x h) refl

  pub demand_empty : (x : ℕ) → demand_bound x empty_slot ≡ 0
  demand_empty x = demand_in x empty_slot zero-le ∙ rw (div-zero (x - 0)) (omega arith)

  -- A slot that owes nothing demands whole jobs alone: those of y ticks, if no more are left after its next release.
  pub demand_idle : (x y : ℕ) (s : Slot) → s.remaining ≡ 0 → x - s.until ≤ y → demand_bound x s ≤ jobs y s
  demand_idle x y s e l = elim (split s.until x) [
    | inl h ↦ omega (arith, demand_in x s h, mul-le-mul_right (s.budget + charge) (div_mono s.period (x - s.until) y l))
    | inr h ↦ omega (arith, demand_out x s h)
  ]

  -- After the releases of a tick: whole jobs in the ticks after this one.
  pub demand_quiet : (y : ℕ) (s : Slot) → Active s → (0 < s.remaining → suc y < s.until) → demand_bound (suc y) s ≤ jobs y s
  demand_quiet y s (inl m) h = rw (m, demand_empty (suc y)) zero-le
  demand_quiet y s (inr a) h = elim (eq-zero-or-pos s.remaining) [
    | inl e ↦ demand_idle (suc y) y s e (omega arith)
    | inr p ↦ omega (arith, demand_out (suc y) s (h p))
  ]

  -- A slot advances: the horizon is nearer by one.
  pub demand-advance : (y k : ℕ) (s : Slot) → Active s → demand_bound y (advance k s) ≡ demand_bound (suc y) s
  demand-advance y k s (inl m) = rw (m, demand_empty y, demand_empty (suc y)) refl
  demand-advance y k s (inr a) = rw (advance-occupied k s a.1.period_in.0) (elim (split s.until (suc y)) [
    | inl h ↦
        let e : y - (s.until - 1) ≡ suc y - s.until = omega arith in
        rw (demand_in y (advanced s) (omega arith), demand_in (suc y) s h, e) refl
    | inr h ↦ rw (demand_out y (advanced s) (omega arith), demand_out (suc y) s h) refl
  ])

  pub advance_can_be : (k : ℕ) (s : Slot) → Active s → CanBe charge (advance k s)
  advance_can_be k s (inl m) = rw m (inl refl)
  advance_can_be k s (inr a) = rw (advance-occupied k s a.1.period_in.0) (inr a.1)

  module _ (requests : List ℕ) (k : ℕ) (s : Slot) where
    pub release-later : 0 < s.until → release charge requests k s ≡ s
    unfolding release
    release-later h = rw (due-later s h) refl

    pub release_now : 0 < s.period → s.until ≡ 0 → release charge requests k s ≡ released s (owed_for charge s.budget (request requests k))
    unfolding release
    release_now h e = rw (due_now s h e) refl

    -- The release of a slot that can be, by cases: it stays as it is, or is released.
    release_cases : (P : Slot → Type 0) → CanBe charge s → (s ≡ empty_slot → P s) → (InUse charge s → 0 < s.until → P s)
        → (InUse charge s → s.until ≡ 0 → P (released s (owed_for charge s.budget (request requests k))))
        → P (release charge requests k s)
    unfolding release
    release_cases P (inl m) vacant later now = rw m (rw m at (vacant m))
    release_cases P (inr w) vacant later now = elim (eq-zero-or-pos s.until) [
      | inl z ↦ rw (release_now w.period_in.0 z) (now w z)
      | inr h ↦ rw (release-later h) (later w h)
    ]

    pub release_active : CanBe charge s → Active (release charge requests k s)
    release_active f =
        release_cases Active f inl
        (λ w h. inr (h, in_use (s.until - 1) s.remaining w (omega arith) w.remaining_in))
        (λ w z. inr (omega (arith, w.period_in.0), in_use (s.period - 1) _ w (omega arith) (owed_most charge s.budget _)))

    -- A release never adds to the demand.
    pub release-demand : (x : ℕ) → CanBe charge s → demand_bound x (release charge requests k s) ≤ demand_bound x s
    release-demand x f =
        release_cases (λ r. demand_bound x r ≤ demand_bound x s) f (λ _. le_refl _) (λ _ _. le_refl _)
        (λ w z. elim (split s.period x) [
          | inl h ↦
              rw (demand_in x (released s _) h, demand_in x s (omega arith), z, sub-zero, div-eq-sub-div w.period_in.0 h)
              (omega (arith, owed_most charge s.budget (request requests k)))
          | inr h ↦ rw (demand_out x (released s _) h) zero-le
        ])
