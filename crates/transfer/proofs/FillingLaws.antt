-- Number 18: the test is the plain condition, for fields within the limits.
use Prim.Native.Nat.{ℕ, ◌-◌, ◌<◌}
use mathlib.Core.Path.{◌≡◌, refl, sym, ◌∙◌, ap}
use mathlib.Core.List.{[], ◌∷◌}
use mathlib.Core.Bool.{Bool, true, false, not, ◌||◌, true≢false}
use mathlib.Core.Logic.{◌⊎◌, inl, inr, ◌↔◌, ◌≢◌, ⊎_elim, by_cases}
use native.Mathlib.Decide.{ℕ_discrete}
use lib.Dec.{eqb}
use native.Mathlib.Omega.{arith}
use borrow.Author.Tests.{eq-eqb}
use Rattle.numbers.specs.First.{first}
use Rattle.numbers.proofs.BoolLaws.{true_or_false, or_false_left, or_false_right}
use Rattle.numbers.proofs.BoundLaws.{unequal_exactly, not_unequal}
use Rattle.numbers.proofs.FirstLaws.{first_zero, first_is, first_clear}
use Rattle.affinity.specs.Permitted.{every_core}
use Rattle.affinity.proofs.PermittedLaws.{every_byte, every_permits, some_barred}
use Rattle.refusal.specs.declared.Cause.TheVariants.{Filling}
use Rattle.refusal.specs.Conditions.{Tested}
use Rattle.refusal.proofs.ConditionLaws.{test_only}
use Rattle.fields.specs.Fields.{affinity_at, Free, Tied}
use Rattle.fields.specs.Limits.{Within}
use Rattle.fields.specs.declared.Fields.{Fields}
use Rattle.transfer.specs.Tables.{other_byte, filling_test, other_filling}

-- numbers that a test does not find unequal
equal : (a b : ℕ) → not (eqb a b) ≡ false → a ≡ b
equal a b n = not_unequal a b (λ d. true≢false (sym ((unequal_exactly a b).1 d) ∙ n))

module _ (f : Fields) where
  -- no task has another core byte
  abbrev Every : Type 0
  Every = (k : ℕ) → k < f.n → affinity_at f k ≡ every_core f.m

  abbrev charged : Bool
  charged = not (eqb f.charge 0)

  abbrev tied : Bool
  tied = not (eqb (first (other_byte f) f.n) 0)

  abbrev tested : Bool
  tested = charged || tied

  -- what the test says where it accepts, and where it must
  filled : tested ≡ false → (f.charge ≡ 0) × Every
  unfolding other_byte
  filled e = (
    equal f.charge 0 (or_false_left charged tied e),
    λ k h. equal (affinity_at f k) (every_core f.m) (first_zero (other_byte f) f.n (equal (first (other_byte f) f.n) 0 (or_false_right charged tied e)) k h),
  )

  fills_by : f.charge ≡ 0 → first (other_byte f) f.n ≡ 0 → tested ≡ false
  fills_by c z = rw (eq-eqb f.charge 0 c, eq-eqb (first (other_byte f) f.n) 0 z)

  fills : f.charge ≡ 0 → Every → tested ≡ false
  unfolding other_byte
  fills c every =
      let n : first (other_byte f) f.n ≡ 0 = first_clear (other_byte f) f.n (λ k h. ap not (eq-eqb (affinity_at f k) (every_core f.m) (every k h))) in
      fills_by c n

  other : (k : ℕ) → other_byte f k ≡ true → affinity_at f k ≡ every_core f.m → ⊥
  unfolding other_byte
  other k t e = (unequal_exactly (affinity_at f k) (every_core f.m)).0 t e

  -- The byte of every core is the one that permits each of them.
  module _ (w : Within f) where
    pub every_free : Every → Free f
    every_free every k h core l g = rw (every k h) (every_permits f.m w.sizes.cores.1 core l g)

    pub free_every : Free f → Every
    free_every free k h = every_byte f.m (affinity_at f k) w.sizes.cores.0 w.sizes.cores.1 (w.affinities k h) (free k h)

    -- the test is the plain condition
    pub filling_exactly : (tested ≡ true) ↔ ((f.charge ≢ 0) ⊎ Tied f)
    filling_exactly = (says, λ x. ⊎_elim (λ t. t) (λ e. absurd (denied (filled e) x)) (true_or_false tested))
      where
        tied_at : (k : ℕ) → k < f.n → (affinity_at f k ≡ every_core f.m → ⊥) → Tied f
        tied_at k h n =
            let b = some_barred f.m (affinity_at f k) w.sizes.cores.0 w.sizes.cores.1 (w.affinities k h) n in
            (k, h, b.0, b.1, b.2, b.3)

        says : tested ≡ true → (f.charge ≢ 0) ⊎ Tied f
        says t =
            by_cases (ℕ_discrete f.charge 0)
            (λ c. by_cases (ℕ_discrete (first (other_byte f) f.n) 0)
            (λ z. absurd (true≢false (sym t ∙ fills_by c z)))
            (λ n.
            let i = first_is (other_byte f) f.n (first (other_byte f) f.n - 1) (omega arith) in
            inr (tied_at (first (other_byte f) f.n - 1) i.below (other (first (other_byte f) f.n - 1) i.here))))
            inl

        denied : (f.charge ≡ 0) × Every → (f.charge ≢ 0) ⊎ Tied f → ⊥
        denied e (inl n) = n e.0
        denied e (inr t) = true≢false (sym (every_free e.1 t.0 t.1 t.2 t.3 t.4) ∙ t.5)

    -- Number 18 is tested of fields within the limits.
    pub filling_tested : Tested ((f.charge ≡ 0) × Free f) (other_filling f ∷ []) (filling_test f)
    filling_tested = record {
      reports = test_only Filling refl filling_exactly;
      valid = (
        λ n. let e = filled (clear n.0) in (e.0, every_free e.1),
        λ v. (λ x. true≢false (sym (filling_exactly.1 x) ∙ fills v.0 (free_every v.1)), tt),
      );
    }
      where
        clear : (((f.charge ≢ 0) ⊎ Tied f) → ⊥) → tested ≡ false
        clear n = ⊎_elim (λ t. absurd (n (filling_exactly.0 t))) (λ e. e) (true_or_false tested)
