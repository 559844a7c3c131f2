-- The hyperperiod of fields within the limits is the least common multiple of the periods.
use Prim.Native.Nat.{ℕ, ◌+◌, ◌≤◌, ◌<◌}
use native.Mathlib.Omega.{arith}
use native.Mathlib.Nat.{le_trans}
use Rattle.numbers.specs.Multiples.{IsLcm}
use Rattle.numbers.proofs.MultipleLaws.{lcms_is, lcms_mono}
use Rattle.fields.specs.Most.{most_multiple}
use Rattle.fields.specs.Fields.{period_at}
use Rattle.fields.specs.Hyperperiod.{multiple_to, hyperperiod_of}
use Rattle.fields.specs.Limits.{Within}
use Rattle.fields.specs.declared.Fields.{Fields}

module _ {f : Fields} (w : Within f) where
  -- the hyperperiod is the least common multiple of the periods
  pub hyperperiod_is : IsLcm (period_at f) f.n (hyperperiod_of f)
  unfolding hyperperiod_of multiple_to
  hyperperiod_is = lcms_is (period_at f) f.n (λ k h. (w.periods k h).0)

  -- no multiple on the way exceeds the bound
  pub multiple_bound : (k : ℕ) → k < f.n → multiple_to f (k + 1) ≤ most_multiple
  unfolding hyperperiod_of multiple_to
  multiple_bound k h = le_trans (lcms_mono (period_at f) (k + 1) f.n (omega arith) (λ j g. (w.periods j g).0)) w.multiple
