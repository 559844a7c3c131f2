-- Facts about lists of steps, whichever walk they come from.
use Prim.Native.Nat.{ℕ, zero, suc, ◌≤◌, ◌<◌}
use native.Mathlib.Nat.{le_refl}
use native.Mathlib.Omega.{arith}
use mathlib.Core.Path.{◌≡◌, refl, ap}
use mathlib.Core.List.{List, [], ◌∷◌, ◌++◌}
use mathlib.Core.Logic.{◌⊎◌, inl, inr, ⊎_elim, ⊎_map}
use lib.ListN.{take}
use Rattle.allocation.specs.Placement.{Problem, rejected}
use Rattle.allocation.specs.Walk.{Step, inner, leaf, bound_after, stored_after, NoLeaf, LastLeaf}

-- one step more in front
after : (s : Step) {t : List Step} {p : List ℕ} → LastLeaf t p → LastLeaf (s ∷ t) p
after s l = record { earlier = s ∷ l.earlier; later = l.later; split = ap (λ (r : List Step). s ∷ r) l.split; none-later = l.none-later }

-- what is stored is the last leaf, or what was stored before if there is none
pub last_stored : (q : List ℕ) (t : List Step) → LastLeaf t (stored_after q t) ⊎ (NoLeaf t × (stored_after q t ≡ q))
unfolding stored_after
last_stored q [] = inr (tt, refl)
last_stored q (inner ∷ t) = ⊎_map (after inner) (λ n. n) (last_stored q t)
last_stored q (leaf p ∷ t) =
    inl (⊎_elim (after (leaf p))
    (λ n. record { earlier = []; later = t; split = rw n.1; none-later = n.0 }) (last_stored p t))

-- every placement that the steps complete has the property, which may speak of the bound before it
abbrev pub Leaves : Problem → (ℕ → List ℕ → Type 0) → ℕ → List Step → Type 0
Leaves P Q b [] = Unit {0}
Leaves P Q b (inner ∷ t) = Leaves P Q b t
Leaves P Q b (leaf p ∷ t) = Q b p × Leaves P Q (rejected P p) t

module _ (P : Problem) where
  pub leaves_append : (Q : ℕ → List ℕ → Type 0) (b : ℕ) (s t : List Step) → Leaves P Q b s → Leaves P Q (bound_after P b s) t → Leaves P Q b (s ++ t)
  unfolding bound_after
  leaves_append Q b [] t a f = f
  leaves_append Q b (inner ∷ s) t a f = leaves_append Q b s t a f
  leaves_append Q b (leaf p ∷ s) t a f = (a.0, leaves_append Q (rejected P p) s t a.1 f)

  -- whatever the limit, what is stored has the property
  pub leaves_stored : (Q : List ℕ → Type 0) (limit b : ℕ) (q : List ℕ) (t : List Step) → Q q → Leaves P (λ _. Q) b t → Q (stored_after q (take limit t))
  unfolding stored_after
  leaves_stored Q zero b q t h a = h
  leaves_stored Q (suc j) b q [] h a = h
  leaves_stored Q (suc j) b q (inner ∷ t) h a = leaves_stored Q j b q t h a
  leaves_stored Q (suc j) b q (leaf p ∷ t) h a = leaves_stored Q j (rejected P p) p t a.0 a.1

pub bound_after-append : (P : Problem) (b : ℕ) (s t : List Step) → bound_after P b (s ++ t) ≡ bound_after P (bound_after P b s) t
unfolding bound_after
bound_after-append P b [] t = refl
bound_after-append P b (inner ∷ s) t = bound_after-append P b s t
bound_after-append P b (leaf p ∷ s) t = bound_after-append P (rejected P p) s t

pub stored_after-append : (q : List ℕ) (s t : List Step) → stored_after q (s ++ t) ≡ stored_after (stored_after q s) t
unfolding stored_after
stored_after-append q [] t = refl
stored_after-append q (inner ∷ s) t = stored_after-append q s t
stored_after-append q (leaf p ∷ s) t = stored_after-append p s t

-- every placement that the steps complete rejects less than the bound before it
abbrev pub Falling : Problem → ℕ → List Step → Type 0
Falling P = Leaves P (λ b p. rejected P p < b)

module _ (P : Problem) where
  -- the more of them are made, the less is rejected
  pub falling-stored : (i j b : ℕ) (q : List ℕ) (t : List Step) → j ≤ i → ((p : List ℕ) → rejected P p < b → rejected P p ≤ rejected P q) → Falling P b t
      → rejected P (stored_after q (take i t)) ≤ rejected P (stored_after q (take j t))
  unfolding stored_after
  falling-stored zero zero b q t h less f = le_refl _
  falling-stored zero (suc j) b q t h less f = absurd (omega arith)
  falling-stored (suc i) zero b q [] h less f = le_refl _
  falling-stored (suc i) zero b q (inner ∷ t) h less f = falling-stored i zero b q t (omega arith) less f
  falling-stored (suc i) zero b q (leaf p ∷ t) h less f =
      omega (arith, less p f.0, falling-stored i zero (rejected P p) p t (omega arith) (λ r l. omega arith) f.1)
  falling-stored (suc i) (suc j) b q [] h less f = le_refl _
  falling-stored (suc i) (suc j) b q (inner ∷ t) h less f = falling-stored i j b q t (omega arith) less f
  falling-stored (suc i) (suc j) b q (leaf p ∷ t) h less f =
      falling-stored i j (rejected P p) p t (omega arith) (λ r l. omega arith) f.1
