-- Numbers of 32 bits are read back from their bytes.
use Prim.Native.Nat.{ℕ, zero, suc, ◌+◌, ◌*◌, ◌/◌, ◌%◌, ◌≤◌, ◌<◌}
use mathlib.Core.Path.{◌≡◌, refl, ◌∙◌, ap}
use mathlib.Core.List.{List, [], ◌∷◌, ◌++◌}
use native.Mathlib.Nat.{div-add-mod, div-div-eq-div-mul, div-lt_iff_lt-mul, mod-eq_of_lt}
use native.Mathlib.Omega.{arith}
use lib.ListN.{length, get_or, get_or-append}
use lib.Seq.{get_or-append-add}
use Rattle.wire.specs.Bytes.{le32, word_at, bytes_of, bytes_of_all, ReadBack, Words}

-- four bytes make the number
digits : (x : ℕ) → x < 4294967296 → x % 256 + 256 * (x / 256 % 256) + 65536 * (x / 65536 % 256) + 16777216 * (x / 16777216 % 256) ≡ x
digits x h =
    let p : x / 256 / 256 ≡ x / 65536 = div-div-eq-div-mul x 256 256 in
    let q : x / 65536 / 256 ≡ x / 16777216 = div-div-eq-div-mul x 65536 256 in
    let small : x / 16777216 < 256 = (div-lt_iff_lt-mul {k = 16777216} {x = x} {y = 256} (omega arith)).1 (omega arith) in
    omega (
      arith,
      div-add-mod x 256,
      div-add-mod (x / 256) 256,
      div-add-mod (x / 65536) 256,
      mod-eq_of_lt small,
    )

-- what stands in front does not matter
behind-front : (front s : List ℕ) (i j : ℕ) → j ≡ length front + i → get_or (front ++ s) j 0 ≡ get_or s i 0
behind-front front s i j e = rw e (get_or-append-add front s i 0)

word_behind : (front s : List ℕ) (k : ℕ) → word_at (front ++ s) (length front) k ≡ word_at s 0 k
unfolding word_at
word_behind front s k =
    rw (
      behind-front front s (0 + 4 * k) (length front + 4 * k) (omega arith),
      behind-front front s (0 + 4 * k + 1) (length front + 4 * k + 1) (omega arith),
      behind-front front s (0 + 4 * k + 2) (length front + 4 * k + 2) (omega arith),
      behind-front front s (0 + 4 * k + 3) (length front + 4 * k + 3) (omega arith),
    )

next_word : (s : List ℕ) (k : ℕ) → word_at s 0 (suc k) ≡ word_at s 4 k
unfolding word_at
next_word s k = ap (le32 s) (omega arith)

first_word : (x : ℕ) (s : List ℕ) → x < 4294967296 → word_at (bytes_of x ++ s) 0 0 ≡ x
unfolding word_at
first_word x s h = digits x h

read_words : (xs : List ℕ) → Words xs → (behind : List ℕ) (k : ℕ) → k < length xs → word_at (bytes_of_all xs ++ behind) 0 k ≡ get_or xs k 0
read_words [] w behind k h = absurd (omega arith)
read_words (x ∷ xs) w behind zero h = first_word x (bytes_of_all xs ++ behind) w.0
read_words (x ∷ xs) w behind (suc k) h =
    next_word (bytes_of x ++ (bytes_of_all xs ++ behind)) k ∙ word_behind (bytes_of x) (bytes_of_all xs ++ behind) k ∙ read_words xs w.1 behind k (omega arith)

pub read_back : (xs : List ℕ) → Words xs → ReadBack xs
read_back xs w = record { each = λ front behind k h. word_behind front (bytes_of_all xs ++ behind) k ∙ read_words xs w behind k h }

pub length-bytes : (xs : List ℕ) → length (bytes_of_all xs) ≡ 4 * length xs
length-bytes [] = refl
length-bytes (x ∷ xs) = omega (arith, length-bytes xs)

-- what stands behind does not matter either
pub byte-front : (s behind : List ℕ) (at : ℕ) → at < length s → get_or (s ++ behind) at 0 ≡ get_or s at 0
byte-front s behind at h = get_or-append s behind 0 at h

pub word_front : (s behind : List ℕ) (at : ℕ) → at + 4 ≤ length s → le32 (s ++ behind) at ≡ le32 s at
word_front s behind at h =
    rw (byte-front s behind at (omega arith), byte-front s behind (at + 1) (omega arith), byte-front s behind (at + 2) (omega arith), byte-front s behind (at + 3) (omega arith))
