-- A loop that appends a piece for each of n elements.
use Prim.Native.Nat.{ℕ, ◌+◌, ◌*◌, ◌≤◌, ◌<◌}
use mathlib.Core.Path.{◌≡◌, sym, ◌∙◌, ap, subst}
use mathlib.Core.List.{List, [], ◌∷◌, ◌++◌, append_assoc, append-nil}
use lib.ListN.{length, take, get_or}
use lib.Seq.{take_all, take-suc}
use native.Mathlib.Omega.{arith}
use native.Mathlib.Numerals.{add-one}
use Rattle.text.specs.Shown.{Appended}
use Rattle.decimal.specs.Joined.{joined, Converts}
use Rattle.text.specs.declared.Text.{Text}
use Rattle.text.proofs.ClipLaws.{append-none, append_both, append_within}

joined-more : {A : Type 0} (piece : A → List ℕ) (xs : List A) (y : A) → joined piece (xs ++ y ∷ []) ≡ joined piece xs ++ piece y
unfolding joined
joined-more piece [] y = append-nil (piece y)
joined-more piece (x ∷ xs) y = ap (λ l. piece x ++ l) (joined-more piece xs y) ∙ sym (append_assoc (piece x) (joined piece xs) (piece y))

-- the pieces of the first k elements are there
pub record Joined {A : Type 0} (piece : A → List ℕ) (most n : ℕ) (t : Text) (l : List A) (r : Text) (k : ℕ) : Type 0 where
  pub size : length l ≡ n
  pub top : k ≤ n
  pub is : Appended t (joined piece (take k l)) (most * k) r

pub join_start : {A : Type 0} (piece : A → List ℕ) (most n : ℕ) (t : Text) (l : List A) → length t.bytes ≡ 2560 → length l ≡ n → Joined piece most n t l t 0
unfolding joined
join_start piece most n t l b h = record { size = h; top = omega arith; is = append_within (most * 0) (append-none t b) (omega arith) }

module _ {A : Type 0} {piece : A → List ℕ} {most n : ℕ} {t : Text} {l : List A} {r : Text} {k : ℕ} where
  pub join_next : (d : A) {next : Text} → Joined piece most n t l r k → k < n → Appended r (piece (get_or l k d)) most next → Joined piece most n t l next (k + 1)
  join_next d s h p = record {
    size = s.size;
    top = omega arith;
    is =
        let more : joined piece (take (k + 1) l) ≡ joined piece (take k l) ++ piece (get_or l k d) =
        rw (add-one, take-suc l k d (omega (arith, s.size))) (joined-more piece (take k l) (get_or l k d)) in
        rw more (append_within (most * (k + 1)) (append_both s.is p) (omega arith));
  }

  pub join_done : (bound : ℕ) → Joined piece most n t l r k → n ≤ k → most * n ≤ bound → Appended t (joined piece l) bound r
  join_done bound s h b =
      let e : k ≡ n = omega (arith, s.top) in
      let whole : take n l ≡ l = take_all n l (omega (arith, s.size)) in
      append_within bound (rw whole at (rw e at s.is)) b

-- The next piece of a loop over the list, which has its element and not the index: what shows of an element is its number.
pub join_item : {A : Type 0} (show : ℕ → List ℕ) (f : A → ℕ) {most n : ℕ} {t r next : Text} {l : List A} {k v : ℕ} {d : A}
    → Joined (λ x. show (f x)) most n t l r k → k < n → d ≡ get_or l k d → v ≡ f d → Appended r (show v) most next
    → Joined (λ x. show (f x)) most n t l next (k + 1)
join_item show f {most = most} {r = r} {next = next} {d = d} s h i e p =
    let at : ℕ → Type 0 = λ x. Appended r (show x) most next in
    join_next d s h (subst at (e ∙ ap f i) p)

-- a number is converted into itself, whatever its width
pub as_itself : Converts (λ (x y : ℕ). y ≡ x) (λ x. x)
as_itself x y e = e
