-- Appending to a text: what does not fit is dropped.
use Prim.Native.Nat.{ℕ, zero, suc, ◌+◌, ◌≤◌, ◌<◌}
use mathlib.Core.Path.{◌≡◌, refl, sym, ◌∙◌, ap}
use mathlib.Core.List.{List, [], ◌∷◌, ◌++◌, append_assoc, append-nil}
use lib.ListN.{length, take, get_or, set, length-append, length-take}
use lib.Seq.{take_all, take-suc, take-suc-set, take_at}
use native.Mathlib.Omega.{arith}
use native.Mathlib.Numerals.{add-one}
use Rattle.text.specs.Shown.{shown, clip, Appended}
use Rattle.text.specs.declared.Text.{Text}

take_again : (n : ℕ) (xs ys : List ℕ) → take n (take n xs ++ ys) ≡ take n (xs ++ ys)
take_again zero xs ys = refl
take_again (suc n) [] ys = refl
take_again (suc n) (x ∷ xs) ys = ap (λ l. x ∷ l) (take_again n xs ys)

-- a second piece: what was dropped before does not matter
clip-more : (xs ys zs : List ℕ) → clip (clip (xs ++ ys) ++ zs) ≡ clip (xs ++ (ys ++ zs))
unfolding clip
clip-more xs ys zs = take_again 2560 (xs ++ ys) zs ∙ ap (take 2560) (append_assoc xs ys zs)

-- nothing more, of a text whose bytes are as many as its type says
pub append-none : (t : Text) → length t.bytes ≡ 2560 → Appended t [] 0 t
unfolding shown clip
append-none t l = record {
  is = rw append-nil (sym (take_all 2560 (take t.length t.bytes) (simp length-take (omega arith))));
  few = omega arith;
}

-- two pieces, one after the other
pub append_both : {t s r : Text} {xs ys : List ℕ} {i j : ℕ} → Appended t xs i s → Appended s ys j r → Appended t (xs ++ ys) (i + j) r
append_both {t} {s} {r} {xs} {ys} p q = record {
  is = rw (q.is, p.is) (clip-more (shown t) xs ys);
  few = simp length-append (omega (arith, p.few, q.few));
}

-- the same piece, with room to spare
pub append_within : {t r : Text} {xs : List ℕ} {i : ℕ} (j : ℕ) → Appended t xs i r → i ≤ j → Appended t xs j r
append_within j p h = record { is = p.is; few = omega (arith, p.few) }

-- a piece that fits, after a text that shows nothing, is shown whole
pub append_whole : {t r : Text} {xs : List ℕ} {i : ℕ} → shown t ≡ [] → Appended t xs i r → i ≤ 2560 → shown r ≡ xs
unfolding clip
append_whole {xs = xs} e p h = p.is ∙ rw e (take_all 2560 xs (omega (arith, p.few)))

-- The steps of `append_byte`.
pub byte_dropped : (t : Text) (b : ℕ) → length t.bytes ≡ 2560 → 2560 ≤ t.length → Appended t (b ∷ []) 1 t
unfolding shown clip
byte_dropped t b l h =
    let whole : take t.length t.bytes ≡ t.bytes = take_all t.length t.bytes (omega arith) in
    record { is = rw whole (sym (take_at t.bytes (b ∷ []) 2560 l)); few = omega arith }

pub byte_kept : (t : Text) (b : ℕ) → length t.bytes ≡ 2560 → t.length < 2560
    → Appended t (b ∷ []) 1 (record { bytes = set t.bytes t.length b; length = t.length + 1 })
unfolding shown clip
byte_kept t b l h =
    let fits : length (take t.length t.bytes ++ b ∷ []) ≤ 2560 = simp (length-append, length-take) (omega arith) in
    let room : t.length < length t.bytes = omega arith in
    record {
      is = rw (add-one, take-suc-set t.bytes t.length b room, take_all 2560 _ fits);
      few = omega arith;
    }

-- The steps of `append_bytes`: the first i bytes are there.
pub record Spelled (t : Text) (piece : List ℕ) (r : Text) (i : ℕ) : Type 0 where
  pub top : i ≤ length piece
  pub is : Appended t (take i piece) i r

pub spell_start : (t : Text) (piece : List ℕ) → length t.bytes ≡ 2560 → Spelled t piece t 0
spell_start t piece l = record { top = omega arith; is = append-none t l }

pub spell_next : {t : Text} {piece : List ℕ} {r next : Text} {i : ℕ} → Spelled t piece r i → i < length piece
    → Appended r (get_or piece i 0 ∷ []) 1 next → Spelled t piece next (i + 1)
spell_next {t} {piece} {r} {next} {i} s h e = record {
  top = omega arith;
  is =
      let more : take (i + 1) piece ≡ take i piece ++ get_or piece i 0 ∷ [] = rw (add-one, take-suc piece i 0 h) in
      rw more (append_both s.is e);
}

pub spell_done : {t : Text} {piece : List ℕ} {r : Text} {i : ℕ} → Spelled t piece r i → length piece ≤ i → Appended t piece (length piece) r
spell_done {piece = piece} {i = i} s h = append_within (length piece) (rw (take_all i piece h) at s.is) s.top
