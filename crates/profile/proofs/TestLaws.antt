-- The test of the list is that of its condition; where every period is in the list, number 7 does not hold.
use Prim.Native.Nat.{ℕ, ◌<◌}
use mathlib.Core.Path.{◌≡◌, refl}
use mathlib.Core.Bool.{true}
use mathlib.Core.List.{[], ◌∷◌}
use mathlib.Core.Logic.{◌↔◌}
use native.Mathlib.Nat.{le_of_dvd}
use native.Mathlib.Omega.{arith}
use borrow.Author.Tests.{eqb-true, eq-eqb}
use Rattle.numbers.proofs.BoundLaws.{not_unequal}
use Rattle.refusal.specs.Conditions.{Fails, Reports}
use Rattle.refusal.specs.declared.Cause.TheVariants.{BusPeriod}
use Rattle.refusal.proofs.ConditionLaws.{test_at}
use Rattle.fields.specs.Fields.{period_at}
use Rattle.fields.specs.Limits.{multiple_above}
use Rattle.fields.specs.declared.Fields.{Fields}
use Rattle.profile.specs.Periods.{bus_place, Listed}
use Rattle.profile.specs.Tests.{unlisted, list_test, Unlisted, period_unlisted}
use Rattle.profile.proofs.ListLaws.{place_listed, listed_multiple}

module _ (f : Fields) where
  unlisted_exactly : (k : ℕ) → (unlisted f k ≡ true) ↔ Unlisted f k
  unfolding unlisted
  unlisted_exactly k = (
    λ e l. (place_listed (period_at f k)).1 l (eqb-true _ 0 e),
    λ u. eq-eqb _ 0 (not_unequal (bus_place (period_at f k)) 0 (λ n. u ((place_listed (period_at f k)).0 n))),
  )

  pub list_reported : Reports (period_unlisted f ∷ []) (list_test f)
  list_reported = test_at BusPeriod (λ k. (refl, refl)) unlisted_exactly

  -- the condition fails exactly where every period is in the list
  pub all_listed : Fails (period_unlisted f) ↔ ((k : ℕ) → k < f.n → Listed (period_at f k))
  all_listed = (λ n k h. (place_listed (period_at f k)).0 (λ z. n k h (λ l. (place_listed (period_at f k)).1 l z)), λ each k h u. u (each k h))

  pub never_above : Fails (period_unlisted f) → Fails (multiple_above f)
  never_above n k h x =
      omega (arith, le_of_dvd (omega arith) (listed_multiple (period_at f) _ x.0 (λ j b. all_listed.0 n j (omega (arith, b, h))) x.1), x.2)
