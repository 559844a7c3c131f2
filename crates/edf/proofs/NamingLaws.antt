-- A tick runs, and the book names, the earliest of the claims: the least deadline, and the lowest number among equals.
use Prim.Native.Nat.{ℕ, zero, suc, ◌≤◌}
use mathlib.Core.Bool.{Bool, cond}
use mathlib.Core.Path.{◌≡◌, refl}
use mathlib.Core.List.{List, [], ◌∷◌, map}
use native.Mathlib.Nat.{le_refl}
use lib.Dec.{ltb, eqb}
use Rattle.numbers.proofs.BoolLaws.{cond_both}
use Rattle.edf.specs.declared.Slot.{Slot}
use Rattle.edf.specs.Earliest.{earliest, NamesEarliest, EachNamesEarliest}
use Rattle.edf.specs.Tick.{claims_from, chosen}
use Rattle.edf.specs.Fresh.{Tasks, core_of}
use Rattle.edf.specs.Book.{BookEntry, new_entry, entries_from, book, begins, renew, claims, given, give, claimed, claims_over, names}
use Rattle.edf.proofs.EarliestLaws.{Rising, claim_task, rising_cons, names-earliest}
use Rattle.edf.proofs.ChoiceLaws.{claims_rising}

-- The runner, after the releases of a tick.
pub chosen-names : (slots : List Slot) → NamesEarliest (claims_from 1 slots) (chosen slots)
unfolding chosen
chosen-names slots = names-earliest 1 (claims_from 1 slots) (claims_rising 1 slots)

-- The book: its entries stand in the order of their numbers, from k on.
abbrev InTaskOrder : ℕ → List BookEntry → Type 0
InTaskOrder = Rising (λ e. e.task)

entries_ordered : (tasks : Tasks) (core k r : ℕ) → InTaskOrder (suc k) (entries_from tasks core k r)
entries_ordered tasks core k zero = tt
entries_ordered tasks core k (suc r) =
    rising_cons (λ e. e.task) (suc k) (eqb (core_of tasks k) core) (new_entry tasks k) _ (le_refl (suc k))
    (entries_ordered tasks core (suc k) r)

-- a change of the first entry that keeps its number, and of the rest
ordered_cons : (k : ℕ) (b : Bool) (x e : BookEntry) (es : List BookEntry) → x.task ≡ e.task → k ≤ e.task
    → InTaskOrder (suc e.task) es → InTaskOrder k (cond b x e ∷ es)
ordered_cons k b x e es q l o = cond_both (λ y. InTaskOrder k (y ∷ es)) b x e (rw q (l, o)) (l, o)

renew-ordered : (charge t : ℕ) (requests : List ℕ) (k : ℕ) (es : List BookEntry) → InTaskOrder k es → InTaskOrder k (renew charge t requests es)
renew-ordered charge t requests k [] o = tt
renew-ordered charge t requests k (e ∷ es) o =
    ordered_cons k (begins t e) _ e (renew charge t requests es) refl o.0
    (renew-ordered charge t requests (suc e.task) es o.1)

give-ordered : (task k : ℕ) (es : List BookEntry) → InTaskOrder k es → InTaskOrder k (give task es)
give-ordered task k [] o = tt
give-ordered task k (e ∷ es) o =
    ordered_cons k (eqb e.task task) (given e) e (give task es) refl o.0 (give-ordered task (suc e.task) es o.1)

book_rising : (t k : ℕ) (es : List BookEntry) → InTaskOrder k es → Rising claim_task k (claims t es)
book_rising t k [] o = tt
book_rising t k (e ∷ es) o =
    rising_cons claim_task k (ltb e.received e.owed) _ (claims t es) o.0 (book_rising t (suc e.task) es o.1)

-- At every tick of a list the book names the earliest of its claims.
claimed-names : (charge : ℕ) (ticks : List (List ℕ)) (t : ℕ) (es : List BookEntry) → InTaskOrder 1 es
    → EachNamesEarliest (claimed charge t es ticks) (map earliest (claimed charge t es ticks))
claimed-names charge [] t es o = tt
claimed-names charge (requests ∷ rest) t es o =
    let es₁ : List BookEntry = renew charge t requests es in
    let o₁ : InTaskOrder 1 es₁ = renew-ordered charge t requests 1 es o in (
      names-earliest 1 (claims t es₁) (book_rising t 1 es₁ o₁),
      claimed-names charge rest (suc t) (give (earliest (claims t es₁)) es₁) (give-ordered (earliest (claims t es₁)) 1 es₁ o₁),
    )

pub book-names_earliest : (tasks : Tasks) (core : ℕ) (ticks : List (List ℕ)) → EachNamesEarliest (claims_over tasks core ticks) (names tasks core ticks)
unfolding book
book-names_earliest tasks core ticks =
    claimed-names _ ticks 0 (book tasks core) (entries_ordered tasks core 0 tasks.n)
