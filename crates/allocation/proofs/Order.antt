-- The order of choices and of placements.
use Prim.Native.Nat.{ℕ, zero, suc, ◌+◌, ◌≤◌, ◌<◌, zero-le}
use native.Mathlib.Nat.{le_refl, le_antisymm, eq-or-lt_of_le}
use native.Mathlib.Numerals.{add-one}
use native.Mathlib.Omega.{arith}
use mathlib.Core.Path.{◌≡◌, refl, sym, ap, ◌∙◌}
use mathlib.Core.List.{List, [], ◌∷◌, ◌++◌, head-eq_of_cons-eq, tail-eq_of_cons-eq}
use mathlib.Core.Logic.{⊎_elim}
use lib.Dec.{eqb}
use lib.ListN.{length, get_or, length-append, get_or-append}
use lib.Seq.{get_or-append_seam}
use borrow.Author.Tests.{ne_eqb}
use Rattle.numbers.proofs.BoolLaws.{cond_both}
use Rattle.allocation.specs.Placement.{Problem, rejected}
use Rattle.allocation.specs.Best.{Earlier, core_core, core_none, Before, here, there, BestBy}
use Rattle.allocation.specs.TableOrder.{BestPlan}
use Rattle.allocation.specs.Walk.{up_from, choices, tried_by}

pub earlier_ne : {c d : ℕ} → Earlier c d → c ≡ d → ⊥
earlier_ne (core_core h l) q = omega arith
earlier_ne (core_none h) q = omega arith

pub earlier_trans : {a b c : ℕ} → Earlier a b → Earlier b c → Earlier a c
earlier_trans (core_core {c = a} h l) (core_core {d = d} k n) = core_core {c = a} {d = d} h (omega arith)
earlier_trans (core_core h l) (core_none k) = core_none h
earlier_trans (core_none h) (core_core k n) = absurd (omega arith)
earlier_trans (core_none h) (core_none k) = core_none h

pub before_ne : {p q : List ℕ} → Before p q → p ≡ q → ⊥
before_ne (here e) q = earlier_ne e (head-eq_of_cons-eq q)
before_ne (there b) q = before_ne b (tail-eq_of_cons-eq q)

pub before_trans : {p q r : List ℕ} → Before p q → Before q r → Before p r
before_trans (here e) (here f) = here (earlier_trans e f)
before_trans (here e) (there c) = here e
before_trans (there b) (here f) = here f
before_trans (there b) (there c) = there (before_trans b c)

-- two placements that part at a choice
pub before_at : (p : List ℕ) {c d : ℕ} (q r : List ℕ) → Earlier c d → Before (p ++ (c ∷ q)) (p ++ (d ∷ r))
before_at [] q r e = here e
before_at (x ∷ p) q r e = there (before_at p q r e)

pub before_asym : {p q : List ℕ} → Before p q → Before q p → ⊥
before_asym b c = before_ne (before_trans b c) refl

-- there is one best placement at most
pub best_unique : {R : List ℕ → List ℕ → Type 0} → ((p q : List ℕ) → R p q → R q p → ⊥)
    → (P : Problem) (p q : List ℕ) → BestBy R P p → BestBy R P q → p ≡ q
best_unique asym P p q a b =
    ⊎_elim (λ e. e) (λ h. ⊎_elim sym (λ k. absurd (asym p q h k)) (b.first p a.feasible same))
    (a.first q b.feasible (sym same))
  where
    same : rejected P p ≡ rejected P q
    same = le_antisymm (a.least q b.feasible) (b.least p a.feasible)

pub best_plan_unique : (T : Problem) (order p q : List ℕ) → BestPlan T order p → BestPlan T order q → p ≡ q
best_plan_unique T order p q = best_unique (λ r s. before_asym) T p q

-- ---- the choices by number

pub length-up_from : (k n : ℕ) → length (up_from k n) ≡ n
unfolding up_from
length-up_from k zero = refl
length-up_from k (suc n) = ap suc (length-up_from (suc k) n)

pub get_or-up_from : (k n j : ℕ) → j < n → get_or (up_from k n) j 0 ≡ k + j
unfolding up_from
get_or-up_from k zero j h = absurd (omega arith)
get_or-up_from k (suc n) zero h = omega arith
get_or-up_from k (suc n) (suc j) h = omega (arith, get_or-up_from (suc k) n j (omega arith))

pub length-choices : (m : ℕ) → length (choices m) ≡ m + 1
unfolding choices
length-choices m = omega (arith, length-append (up_from 1 m) (0 ∷ []), length-up_from 1 m)

-- the cores from 1 upward, then 0
pub choice_core : (m j : ℕ) → j < m → get_or (choices m) j 0 ≡ suc j
unfolding choices
choice_core m j h =
    get_or-append (up_from 1 m) (0 ∷ []) 0 j (omega (arith, length-up_from 1 m)) ∙ omega (arith, get_or-up_from 1 m j h)

pub choice_none : (m : ℕ) → get_or (choices m) m 0 ≡ 0
unfolding choices
choice_none m = ap (λ (j : ℕ). get_or (choices m) j 0) (sym (length-up_from 1 m)) ∙ get_or-append_seam (up_from 1 m) 0 [] 0

pub choice_le : (m j : ℕ) → j ≤ m → get_or (choices m) j 0 ≤ m
choice_le m j h =
    ⊎_elim (λ (e : j ≡ m). rw (e, choice_none m) zero-le)
    (λ (l : j < m). omega (arith, choice_core m j l)) (eq-or-lt_of_le h)

pub tried_by_choice : (m j : ℕ) → j ≤ m → tried_by m (get_or (choices m) j 0) ≡ suc j
unfolding tried_by
tried_by_choice m j h =
    ⊎_elim (λ (e : j ≡ m). rw (e, choice_none m) (add-one m))
    (λ (l : j < m). rw (choice_core m j l, ne_eqb (suc j) 0 (λ e. omega arith))) (eq-or-lt_of_le h)

pub tried_by_le : (m c : ℕ) → c ≤ m → tried_by m c ≤ m + 1
unfolding tried_by
tried_by_le m c h = cond_both (λ x. x ≤ m + 1) (eqb c 0) (m + 1) c (le_refl (m + 1)) (omega arith)

-- each choice comes earlier than those after it
abbrev pub Ordered : List ℕ → Type 0
Ordered cs = (i j : ℕ) → i < j → j < length cs → Earlier (get_or cs i 0) (get_or cs j 0)

pub choices-ordered : (m : ℕ) → Ordered (choices m)
choices-ordered m i j h l =
    let k : j ≤ m = omega (arith, length-choices m) in
    rw (choice_core m i (omega arith))
    (⊎_elim (λ (e : j ≡ m). rw (e, choice_none m) (core_none {c = suc i} (omega arith)))
    (λ (n : j < m). rw (choice_core m j n) (core_core {c = suc i} {d = suc j} (omega arith) (omega arith)))
    (eq-or-lt_of_le k))
