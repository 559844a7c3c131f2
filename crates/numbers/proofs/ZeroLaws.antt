-- Rows of zeros, and rows that zeros complete.
use Prim.Native.Nat.{ℕ, zero, suc, ◌-◌, ◌≤◌, ◌<◌}
use native.Mathlib.Nat.{sub-zero, zero-sub, suc-sub-suc}
use native.Mathlib.Omega.{arith}
use mathlib.Core.Path.{◌≡◌, refl, sym, ap, ◌∙◌}
use mathlib.Core.List.{List, [], ◌∷◌, ◌++◌}
use lib.ListN.{length, get_or, take, drop, set, replicate, length-append}
use lib.Seq.{append_snoc, set-append_seam}
use Rattle.numbers.specs.Rows.{padded}

pub take_zeros : (n k : ℕ) → n ≤ k → take n (replicate {A = ℕ} k 0) ≡ replicate n 0
take_zeros zero k l = refl
take_zeros (suc n) zero l = absurd (omega arith)
take_zeros (suc n) (suc k) l = ap (λ (x : List ℕ). 0 ∷ x) (take_zeros n k (omega arith))

pub drop_zeros : (n k : ℕ) → drop n (replicate {A = ℕ} k 0) ≡ replicate (k - n) 0
drop_zeros zero k = rw sub-zero
drop_zeros (suc n) zero = rw zero-sub
drop_zeros (suc n) (suc k) = rw suc-sub-suc (drop_zeros n k)

pub zero_at : (k x : ℕ) → get_or (replicate {A = ℕ} k 0) x 0 ≡ 0
zero_at zero x = refl
zero_at (suc k) zero = refl
zero_at (suc k) (suc x) = zero_at k x

get_or-append_zeros : (p : List ℕ) (k x : ℕ) → get_or (p ++ replicate k 0) x 0 ≡ get_or p x 0
get_or-append_zeros [] k x = zero_at k x
get_or-append_zeros (c ∷ p) k zero = refl
get_or-append_zeros (c ∷ p) k (suc x) = get_or-append_zeros p k x

-- a padded list has the same entries
pub get_or-padded : (p : List ℕ) (x : ℕ) → get_or (padded p) x 0 ≡ get_or p x 0
get_or-padded p x = get_or-append_zeros p (16 - length p) x

-- the entry behind the list is changed
pub padded_next : (p : List ℕ) (c : ℕ) → length p < 16 → set (padded p) (length p) c ≡ padded (p ++ (c ∷ []))
padded_next p c h =
    let e : 16 - length p ≡ suc (16 - length (p ++ (c ∷ []))) = omega (arith, length-append p (c ∷ [])) in
    rw e (set-append_seam p 0 _ c ∙ sym (append_snoc p c _))
