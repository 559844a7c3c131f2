-- Bytes that were read as numbers are written back as they were; and which numbers have 32 bits.
use Prim.Native.Nat.{ℕ, zero, suc, ◌+◌, ◌*◌, ◌/◌, ◌%◌, ◌≤◌, ◌<◌}
use mathlib.Core.Path.{◌≡◌, refl, sym, ◌∙◌, ap, ap₂}
use mathlib.Core.List.{List, [], ◌∷◌, ◌++◌}
use lib.ListN.{length, get_or, take, drop, length-drop, take-append-drop}
use lib.Seq.{take-add, drop-drop, drop-cons, get_or-drop, get_or-take, length-take-le}
use native.Mathlib.Numerals.{add-one, add-two, add-three}
use native.Mathlib.Nat.{add-mul-mod_self_left, mod-eq_of_lt, add-mul-div_left, div-eq_of_lt, zero-add, div-div-eq-div-mul}
use native.Mathlib.Omega.{arith}
use Rattle.numbers.specs.Rows.{tab}
use Rattle.numbers.proofs.RowLaws.{length-tab, get_or-tab, by_entries}
use Rattle.wire.specs.Bytes.{le32, word_at, byte_at, bytes_of, bytes_of_all, Words, Bytes}
use Rattle.wire.proofs.ReadBackLaws.{length-bytes}

-- a number's lowest byte, and the rest
low : (a q : ℕ) → a < 256 → (a + 256 * q) % 256 ≡ a
low a q h = add-mul-mod_self_left a 256 q ∙ mod-eq_of_lt h

high : (a q : ℕ) → a < 256 → (a + 256 * q) / 256 ≡ q
high a q h = add-mul-div_left a q {y = 256} (omega arith) ∙ ap (λ k. k + q) (div-eq_of_lt h) ∙ zero-add q

-- four bytes, as a number and back
bytes_back : (a b c d : ℕ) → a < 256 → b < 256 → c < 256 → d < 256
    → bytes_of (a + 256 * b + 65536 * c + 16777216 * d) ≡ a ∷ b ∷ c ∷ d ∷ []
bytes_back a b c d ha hb hc hd =
    let x : ℕ = a + 256 * b + 65536 * c + 16777216 * d in
    let e : x ≡ a + 256 * (b + 256 * (c + 256 * d)) = omega arith in
    let q1 : x / 256 ≡ b + 256 * (c + 256 * d) = ap (λ y. y / 256) e ∙ high a (b + 256 * (c + 256 * d)) ha in
    let q2 : x / 65536 ≡ c + 256 * d = sym (div-div-eq-div-mul x 256 256) ∙ ap (λ y. y / 256) q1 ∙ high b (c + 256 * d) hb in
    let q3 : x / 16777216 ≡ d = sym (div-div-eq-div-mul x 65536 256) ∙ ap (λ y. y / 256) q2 ∙ high c d hc in
    let m0 : x % 256 ≡ a = ap (λ y. y % 256) e ∙ low a (b + 256 * (c + 256 * d)) ha in
    let m1 : x / 256 % 256 ≡ b = ap (λ y. y % 256) q1 ∙ low b (c + 256 * d) hb in
    let m2 : x / 65536 % 256 ≡ c = ap (λ y. y % 256) q2 ∙ low c d hc in
    let m3 : x / 16777216 % 256 ≡ d = ap (λ y. y % 256) q3 ∙ mod-eq_of_lt hd in
    rw (m0, m1, m2, m3)

module _ (s : List ℕ) (small : Bytes s) where
  take_four : (at : ℕ) → at + 4 ≤ length s → take 4 (drop at s) ≡ get_or s at 0 ∷ get_or s (at + 1) 0 ∷ get_or s (at + 2) 0 ∷ get_or s (at + 3) 0 ∷ []
  take_four at h =
      let a0 : at < length s = omega arith in
      let a1 : suc at < length s = omega arith in
      let a2 : suc (suc at) < length s = omega arith in
      let a3 : suc (suc (suc at)) < length s = omega arith in
      rw (add-one at, add-two at, add-three at, drop-cons s at 0 a0, drop-cons s (suc at) 0 a1, drop-cons s (suc (suc at)) 0 a2, drop-cons s (suc (suc (suc at))) 0 a3)

  word_back : (at : ℕ) → at + 4 ≤ length s → bytes_of (le32 s at) ≡ take 4 (drop at s)
  word_back at h = bytes_back (get_or s at 0) (get_or s (at + 1) 0) (get_or s (at + 2) 0) (get_or s (at + 3) 0) (small at) (small (at + 1)) (small (at + 2)) (small (at + 3)) ∙ sym (take_four at h)

  -- the numbers that stand in s from `at`, whatever gives them
  words_from : (n at : ℕ) (f : ℕ → ℕ) → at + 4 * n ≤ length s → ((k : ℕ) → k < n → f k ≡ word_at s at k) → bytes_of_all (tab n f) ≡ take (4 * n) (drop at s)
  unfolding tab word_at
  words_from zero at f h e = refl
  words_from (suc n) at f h e =
      let first : f 0 ≡ le32 s at = e 0 (omega arith) ∙ ap (le32 s) (omega arith) in
      let rest : bytes_of_all (tab n (λ k. f (suc k))) ≡ take (4 * n) (drop (at + 4) s) =
      words_from n (at + 4) (λ k. f (suc k)) (omega arith) (λ k b. e (suc k) (omega arith) ∙ ap (le32 s) (omega arith)) in
      let count : 4 + 4 * n ≡ 4 * suc n = omega arith in
      ap₂ (λ a b. bytes_of a ++ b) first rest
      ∙ ap₂ ◌++◌ (word_back at (omega arith)) (ap (take (4 * n)) (sym (drop-drop 4 at s)))
      ∙ sym (take-add 4 (4 * n) (drop at s)) ∙ ap (λ k. take k (drop at s)) count

  pub words_back : (n at : ℕ) → at + 4 * n ≤ length s → bytes_of_all (tab n (word_at s at)) ≡ take (4 * n) (drop at s)
  words_back n at h = words_from n at (word_at s at) h (λ k b. refl)

  pub row_back : (n at : ℕ) → at + n ≤ length s → tab n (byte_at s at) ≡ take n (drop at s)
  unfolding byte_at
  row_back n at h =
      by_entries 0 (length-tab 0 n (byte_at s at)) (length-take-le n (drop at s) (rw length-drop (omega arith)))
      (λ k b. get_or-tab 0 n (byte_at s at) k b ∙ sym (get_or-take n (drop at s) k 0 b ∙ get_or-drop at s k 0))

-- a part and what follows it
pub part_back : (s : List ℕ) (a at : ℕ) → take a (drop at s) ++ drop (at + a) s ≡ drop at s
part_back s a at = rw (← drop-drop a at s) (take-append-drop a (drop at s))

-- numbers of 32 bits, each
words_each : (xs : List ℕ) → ((k : ℕ) → k < length xs → get_or xs k 0 < 4294967296) → Words xs
words_each [] h = tt
words_each (x ∷ xs) h = (h 0 (omega arith), words_each xs (λ k b. h (suc k) (omega arith)))

-- The front of a row that is written: as many numbers as there are tasks, of 32 bits each.
module _ {n : ℕ} (xs : List ℕ) (there : n ≤ length xs) where
  pub front_long : length (take n xs) ≡ n
  front_long = length-take-le n xs there

  pub front_bytes : length (bytes_of_all (take n xs)) ≡ 4 * n
  front_bytes = length-bytes (take n xs) ∙ rw front_long

  pub front_words : ((k : ℕ) → k < n → get_or xs k 0 < 4294967296) → Words (take n xs)
  front_words h = words_each (take n xs) (λ k b. let l : k < n = rw front_long at b in rw (get_or-take n xs k 0 l) (h k l))
