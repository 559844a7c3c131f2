-- The steps of `append_decimal` and `append_field`.
use Prim.Native.Nat.{ℕ, ◌+◌, ◌/◌, ◌%◌, ◌≤◌, ◌<◌}
use mathlib.Core.Path.{◌≡◌}
use mathlib.Core.List.{[], ◌∷◌}
use Rattle.text.specs.Shown.{Appended}
use Rattle.decimal.specs.Decimal.{decimal, field}
use Rattle.text.specs.declared.Text.{Text}
use Rattle.text.proofs.ClipLaws.{append_both}
use Rattle.decimal.proofs.DecimalLaws.{decimal-one, decimal-more, decimal_few}

module _ {t r : Text} (x : ℕ) {d : ℕ} (fits : x < 18446744073709551616) (e : d ≡ 48 + x % 10) where
  pub number_one : x < 10 → Appended t (d ∷ []) 1 r → Appended t (decimal x) 20 r
  number_one h p = record { is = rw (decimal-one x h, ← e) p.is; few = decimal_few x fits }

  pub number_more : {front : Text} → 10 ≤ x → Appended t (decimal (x / 10)) 20 front → Appended front (d ∷ []) 1 r → Appended t (decimal x) 20 r
  number_more h q p = record { is = rw (decimal-more x h, ← e) (append_both q p).is; few = decimal_few x fits }

pub field-made : {t s r : Text} (x : ℕ) → Appended t (32 ∷ []) 1 s → Appended s (decimal x) 20 r → Appended t (field x) 21 r
unfolding field
field-made x p q = append_both p q
