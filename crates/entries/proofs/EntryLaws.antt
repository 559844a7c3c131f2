-- Each test of a placement reports its condition.
use Prim.Native.Nat.{ℕ, ◌≤◌, ◌<◌}
use mathlib.Core.Path.{◌≡◌, refl, sym, ◌∙◌}
use mathlib.Core.Bool.{not, true, false, true≢false}
use mathlib.Core.Logic.{◌↔◌}
use mathlib.Core.List.{List, [], ◌∷◌}
use borrow.Author.Tests.{not-true}
use lib.ListN.{length}
use Rattle.numbers.specs.Rows.{entry}
use Rattle.numbers.proofs.BoundLaws.{less_exactly, not_less, unequal_exactly}
use Rattle.affinity.specs.Permitted.{permitted, allowed, every_core}
use Rattle.affinity.proofs.PermittedLaws.{allowed_says, every_permits}
use Rattle.refusal.specs.Conditions.{Fails, Reports}
use Rattle.refusal.specs.declared.Cause.TheVariants.{Placement, NotPermitted}
use Rattle.refusal.proofs.ConditionLaws.{test_only, test_at}
use Rattle.fields.specs.declared.Fields.{Fields}
use Rattle.fields.specs.Fields.{affinity_at}
use Rattle.entries.specs.Tests.{places_test, above_at, entries_test, barred_at, permitted_test}
use Rattle.entries.specs.Limits.{other_places, core_above, core_barred}

-- a placement that uses a core that a byte does not permit
barred_exactly : (byte choice : ℕ) → (not (allowed byte choice) ≡ true) ↔ ((1 ≤ choice) × (permitted byte choice ≡ false))
barred_exactly byte choice = (λ e. (allowed_says byte choice).0 (not-true _ e), λ x. rw ((allowed_says byte choice).1 x))

module _ (f : Fields) (placement : List ℕ) where
  pub places_tested : Reports (other_places f placement ∷ []) (places_test f placement)
  places_tested = test_only (Placement 0) refl (unequal_exactly (length placement) f.n)

  pub entries_tested : Reports (core_above f placement ∷ []) (entries_test f placement)
  unfolding above_at
  entries_tested = test_at Placement (λ k. (refl, refl)) (λ k. less_exactly f.m (entry placement k))

  pub permitted-tested : Reports (core_barred f placement ∷ []) (permitted_test f placement)
  unfolding barred_at
  permitted-tested = test_at NotPermitted (λ k. (refl, refl)) (λ k. barred_exactly (affinity_at f k) (entry placement k))

  -- The byte of every core permits each, so where each task has it number 16 holds only where number 9 does.
  pub barred_every : f.m ≤ 4 → ((k : ℕ) → k < f.n → affinity_at f k ≡ every_core f.m)
      → Fails (core_above f placement) → Fails (core_barred f placement)
  barred_every few every n k h x =
      true≢false (sym (every_permits f.m few (entry placement k) x.0 (not_less _ _ (n k h)))
      ∙ rw (← every k h) x.1)
