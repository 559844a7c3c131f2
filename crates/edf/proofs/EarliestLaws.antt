-- What `earliest` names: of claims whose numbers rise along the list, one with the least deadline, and of those the lowest number.
use Prim.Native.Nat.{ℕ, suc, ◌≤◌}
use mathlib.Core.Path.{◌≡◌, refl}
use mathlib.Core.Logic.{inl, inr, ⊎_elim}
use mathlib.Core.Bool.{Bool, true, false, cond}
use mathlib.Core.List.{List, [], ◌∷◌}
use native.Mathlib.Omega.{arith}
use lib.Dec.{ltb}
use borrow.Author.Tests.{ltb-true, ltb-false}
use Rattle.numbers.proofs.BoolLaws.{cond_both}
use Rattle.edf.specs.declared.Claim.{Claim}
use Rattle.edf.specs.Earliest.{cons_if, soonest, earliest, In, IsEarliest, NamesEarliest}

-- the numbers rise along the list, from k on
abbrev pub Rising : {A : Type 0} → (A → ℕ) → ℕ → List A → Type 0
Rising number k [] = Unit {0}
Rising number k (x ∷ xs) = (k ≤ number x) × Rising number (suc (number x)) xs

module _ {A : Type 0} (number : A → ℕ) where
  rising_from : (k l : ℕ) (xs : List A) → k ≤ l → Rising number l xs → Rising number k xs
  rising_from k l [] h r = tt
  rising_from k l (x ∷ xs) h r = (omega (arith, r.0), r.1)

  -- an element in front of those of higher numbers, if it is there
  pub rising_cons : (k : ℕ) (b : Bool) (x : A) (xs : List A) → k ≤ number x → Rising number (suc (number x)) xs
      → Rising number k (cons_if b x xs)
  rising_cons k true x xs l r = (l, r)
  rising_cons k false x xs l r = rising_from k (suc (number x)) xs (omega arith) r

abbrev pub claim_task : Claim → ℕ
claim_task c = c.task

-- m has an earlier deadline than d, or the same and no higher number
abbrev Beats : Claim → Claim → Type 0
Beats m d = (m.deadline ≤ d.deadline) × (d.deadline ≡ m.deadline → m.task ≤ d.task)

soonest_beats : (c : Claim) (cs : List Claim) → Rising claim_task (suc c.task) cs
    → (d : Claim) → In d (c ∷ cs) → Beats (soonest c cs) d
soonest_beats c [] r d (inl e) = rw e (omega arith)
soonest_beats c [] r d (inr h) = absurd h
soonest_beats c (x ∷ xs) r d h =
    go (ltb x.deadline c.deadline) refl (soonest_beats x xs r.1)
    (soonest_beats c xs (rising_from claim_task (suc c.task) (suc x.task) xs (omega (arith, r.0)) r.1)) h
  where
    go : (b : Bool) → ltb x.deadline c.deadline ≡ b → ((y : Claim) → In y (x ∷ xs) → Beats (soonest x xs) y)
        → ((y : Claim) → In y (c ∷ xs) → Beats (soonest c xs) y) → In d (c ∷ x ∷ xs) → Beats (soonest (cond b x c) xs) d
    go true t f g (inl e) = rw e (omega (arith, (f x (inl refl)).0, ltb-true x.deadline c.deadline t))
    go true t f g (inr h) = f d h
    go false t f g (inl e) = g d (inl e)
    go false t f g (inr (inr h)) = g d (inr h)
    go false t f g (inr (inl e)) =
        let (l, m) = g c (inl refl) in
        let n : c.deadline ≤ x.deadline = ltb-false x.deadline c.deadline t in
        rw e (omega arith, λ q. omega (arith, m (omega arith), r.0))

pub soonest_in : (c : Claim) (cs : List Claim) → In (soonest c cs) (c ∷ cs)
soonest_in c [] = inl refl
soonest_in c (d ∷ ds) =
    cond_both (λ x. In (soonest x ds) (c ∷ d ∷ ds)) (ltb d.deadline c.deadline) d c
    (inr (soonest_in d ds)) (⊎_elim inl (λ h. inr (inr h)) (soonest_in c ds))

pub names-earliest : (k : ℕ) (cs : List Claim) → Rising claim_task k cs → NamesEarliest cs (earliest cs)
names-earliest k [] r = inl (refl, refl)
names-earliest k (c ∷ cs) r =
    let e : IsEarliest (c ∷ cs) (soonest c cs) = record {
      claims = soonest_in c cs;
      least = λ d h. (soonest_beats c cs r.1 d h).0;
      lowest = λ d h. (soonest_beats c cs r.1 d h).1;
    } in
    inr (soonest c cs, e, refl)
