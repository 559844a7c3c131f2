-- The tests of a form are those of its limits and refusals, whatever its leading bytes and its size.
use Rattle.std.specs.Prelude.{Ok}
use Prim.Native.Nat.{ℕ, ◌≤◌}
use mathlib.Core.Path.{◌≡◌, refl, sym, ◌∙◌}
use mathlib.Core.List.{List, [], ◌∷◌, ◌++◌}
use lib.ListN.{length}
use native.Mathlib.Omega.{arith}
use Rattle.numbers.proofs.BoundLaws.{less_exactly, not_less, unequal_exactly, not_unequal}
use Rattle.refusal.specs.Conditions.{Condition, Tested}
use Rattle.refusal.specs.declared.Cause.TheVariants.{TooShort, Length}
use Rattle.refusal.specs.Outcome.{Outcome}
use Rattle.refusal.proofs.ConditionLaws.{join, one-tested}
use Rattle.refusal.proofs.TestLaws.{then_accepted}
use Rattle.taskset.specs.Reading.{reading_by}
use Rattle.fields.specs.Limits.{Sized, Within, sizes, limits}
use Rattle.fields.specs.declared.Fields.{Fields}
use Rattle.taskset.specs.declared.Reading.{Reading}
use Rattle.fields.proofs.LimitLaws.{sizes-tested}
use Rattle.taskset.proofs.ReadingLaws.{sizes_say}
use Rattle.taskset.proofs.TableLaws.{after-tested}
use Rattle.form.specs.Shape.{short_test, too_short, other_length, shape_outcome, form_outcome}

pub short_tested : (lead : ℕ) (s : List ℕ) → Tested (lead ≤ length s) (too_short lead s ∷ []) (short_test lead s)
short_tested lead s = one-tested TooShort refl (less_exactly (length s) lead) (not_less _ _, λ h g. omega arith)

module _ {Front : Type 0} {cs : List Condition} {front : Outcome} (t : Tested Front cs front) (size : ℕ) (s : List ℕ) (f : Fields) where
  pub shape_tested : Tested ((Front × Sized f) × (length s ≡ size)) ((cs ++ sizes f) ++ other_length size s ∷ []) (shape_outcome front size s f)
  unfolding shape_outcome
  shape_tested = join (join t (sizes-tested f)) (one-tested Length refl (unequal_exactly (length s) size) (not_unequal _ _, λ e n. n e))

  pub form_tested : Tested (((Front × Sized f) × (length s ≡ size)) × Within f) (((cs ++ sizes f) ++ other_length size s ∷ []) ++ limits f) (form_outcome front size s f)
  unfolding form_outcome
  form_tested = after-tested f (λ v. v.0.1) shape_tested

-- The steps of a reader.
pub shape_says : (front : Outcome) (size : ℕ) (s : List ℕ) (f : Fields) {o : Outcome} → o ≡ shape_outcome front size s f → o ≡ Ok tt → Sized f
unfolding shape_outcome
shape_says front size s f p q = sizes_say f refl (then_accepted front _ (then_accepted _ _ (sym p ∙ q)).0).1

pub form_read : (s : List ℕ) {front x : Outcome} {size z : ℕ} {g f : Fields} {r : Reading} → r ≡ reading_by (form_outcome front size s g) g
    → front ≡ x → size ≡ z → g ≡ f → r ≡ reading_by (form_outcome x z s f) f
form_read s h p q e = h ∙ rw (p, q, e)
