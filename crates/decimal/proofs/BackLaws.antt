-- What is printed is read back: numbers, items between spaces, lines.
use Prim.Native.Nat.{ℕ, zero, suc, ◌+◌, ◌-◌, ◌*◌, ◌/◌, ◌%◌, ◌≤◌, ◌<◌}
use mathlib.Core.Path.{◌≡◌, refl, ◌∙◌, ap, ap₂}
use mathlib.Core.Bool.{Bool, true, false, not, ◌&&◌, false≢true}
use mathlib.Core.List.{List, [], ◌∷◌, ◌++◌, map, map-append, append_assoc}
use lib.Dec.{eqb}
use native.Mathlib.Omega.{arith}
use borrow.Author.Tests.{le-leb, lt-ltb, eq-eqb, ne_eqb}
use Rattle.text.specs.Ascii.{ascii}
use Rattle.decimal.specs.Decimal.{front, digits_by, decimal, field, NumbersReadBack}
use Rattle.decimal.specs.Reader.{Item, number, word, all_digits, is_number, value_from, item, ahead, pieces, read_line, read_text}

-- ---- pieces

-- a byte stands nowhere among these
abbrev pub lacks : ℕ → List ℕ → Bool
lacks b [] = true
lacks b (x ∷ xs) = not (eqb x b) && lacks b xs

lacks-append : (b : ℕ) (xs ys : List ℕ) → lacks b xs ≡ true → lacks b ys ≡ true → lacks b (xs ++ ys) ≡ true
lacks-append b [] ys p q = q
lacks-append b (x ∷ xs) ys p q = go (eqb x b) p (λ r. lacks-append b xs ys r q)
  where
    go : (c : Bool) → (not c && lacks b xs) ≡ true → (lacks b xs ≡ true → lacks b (xs ++ ys) ≡ true) → (not c && lacks b (xs ++ ys)) ≡ true
    go true r more = r
    go false r more = more r

pieces_whole : (b : ℕ) (xs : List ℕ) → lacks b xs ≡ true → pieces b xs ≡ xs ∷ []
unfolding pieces
pieces_whole b [] p = refl
pieces_whole b (x ∷ xs) p = go (eqb x b) p (pieces_whole b xs)
  where
    go : (c : Bool) → (not c && lacks b xs) ≡ true → (lacks b xs ≡ true → pieces b xs ≡ xs ∷ []) → ahead c x (pieces b xs) ≡ (x ∷ xs) ∷ []
    go true r more = absurd (false≢true r)
    go false r more = rw (more r)

-- there is always a piece
pub some_piece : (b : ℕ) (xs : List ℕ) → (p : List ℕ) × (ps : List (List ℕ)) × (pieces b xs ≡ p ∷ ps)
unfolding pieces
some_piece b [] = ([], [], refl)
some_piece b (x ∷ xs) = go (eqb x b) (some_piece b xs)
  where
    go : (c : Bool) → (p : List ℕ) × (ps : List (List ℕ)) × (pieces b xs ≡ p ∷ ps) → (p : List ℕ) × (ps : List (List ℕ)) × (ahead c x (pieces b xs) ≡ p ∷ ps)
    go true r = ([], pieces b xs, refl)
    go false r = (x ∷ r.0, r.1, rw r.2)

-- at a place of the byte the pieces fall apart
pieces_split : (b : ℕ) (xs ys : List ℕ) → pieces b (xs ++ b ∷ ys) ≡ pieces b xs ++ pieces b ys
unfolding pieces
pieces_split b [] ys = rw (eq-eqb b b refl)
pieces_split b (x ∷ xs) ys = ap (ahead (eqb x b) x) (pieces_split b xs ys) ∙ go (eqb x b) (some_piece b xs)
  where
    go : (c : Bool) → (p : List ℕ) × (ps : List (List ℕ)) × (pieces b xs ≡ p ∷ ps) → ahead c x (pieces b xs ++ pieces b ys) ≡ ahead c x (pieces b xs) ++ pieces b ys
    go true r = refl
    go false r = rw r.2

-- ---- numbers

-- bytes that are digits
abbrev Digits : List ℕ → Type 0
Digits [] = Unit {0}
Digits (b ∷ bs) = (48 ≤ b) × (b ≤ 57) × Digits bs

digits_all : (bs : List ℕ) → Digits bs → all_digits bs ≡ true
digits_all [] d = refl
digits_all (b ∷ bs) d = rw (le-leb 48 b d.0, le-leb b 57 d.1, digits_all bs d.2)

digits_lack : (b : ℕ) → b < 48 → (xs : List ℕ) → Digits xs → lacks b xs ≡ true
digits_lack b h [] d = refl
digits_lack b h (x ∷ xs) d = rw (ne_eqb x b (λ (e : x ≡ b). omega (arith, d.0)), digits_lack b h xs d.2)

digits_more : (xs : List ℕ) (b : ℕ) → Digits xs → 48 ≤ b → b ≤ 57 → Digits (xs ++ b ∷ [])
digits_more [] b d l h = (l, h, tt)
digits_more (x ∷ xs) b d l h = (d.0, d.1, digits_more xs b d.2 l h)

value_more : (v : ℕ) (xs : List ℕ) (b : ℕ) → value_from v (xs ++ b ∷ []) ≡ 10 * value_from v xs + (b - 48)
value_more v [] b = refl
value_more v (x ∷ xs) b = value_more (10 * v + (x - 48)) xs b

-- the first is no zero
abbrev Leads : List ℕ → Type 0
Leads [] = ⊥
Leads (b ∷ bs) = 48 < b

leads_more : (xs : List ℕ) (b : ℕ) → Leads xs → Leads (xs ++ b ∷ [])
leads_more [] b l = absurd l
leads_more (x ∷ xs) b l = l

leads_number : (bs : List ℕ) → Digits bs → Leads bs → is_number bs ≡ true
leads_number [] d l = absurd l
leads_number (b ∷ []) d l = digits_all (b ∷ []) d
leads_number (b ∷ c ∷ bs) d l = rw (lt-ltb 48 b l) (digits_all (b ∷ c ∷ bs) d)

-- the digits of x
record Spelt (x : ℕ) (bs : List ℕ) : Type 0 where
  digits : Digits bs
  value : value_from 0 bs ≡ x
  leads : 0 < x → Leads bs
  is : is_number bs ≡ true

spelt_one : (x : ℕ) → x < 10 → Spelt x ((48 + x % 10) ∷ [])
spelt_one x h =
    let d : Digits ((48 + x % 10) ∷ []) = (omega arith, omega arith, tt) in
    record { digits = d; value = omega arith; leads = λ l. omega arith; is = digits_all ((48 + x % 10) ∷ []) d }

spelt_more : (x : ℕ) (bs : List ℕ) → 0 < x / 10 → Spelt (x / 10) bs → Spelt x (bs ++ (48 + x % 10) ∷ [])
spelt_more x bs h s =
    let d = digits_more bs (48 + x % 10) s.digits (omega arith) (omega arith) in
    let l = leads_more bs (48 + x % 10) (s.leads h) in
    record {
      digits = d;
      value = value_more 0 bs (48 + x % 10) ∙ rw s.value (omega arith);
      leads = λ p. l;
      is = leads_number (bs ++ (48 + x % 10) ∷ []) d l;
    }

spelt_by : (k x : ℕ) → x < k → Spelt x (digits_by k x)
unfolding digits_by front
spelt_by zero x h = absurd (omega arith)
spelt_by (suc k) x h = go (x / 10) refl (λ q l. spelt_by k q l)
  where
    go : (q : ℕ) → x / 10 ≡ q → ((q : ℕ) → q < k → Spelt q (digits_by k q)) → Spelt x (front (digits_by k) q ++ (48 + x % 10) ∷ [])
    go zero e more = spelt_one x (omega arith)
    go (suc q) e more = spelt_more x (digits_by k (suc q)) (omega arith) (rw e (more (suc q) (omega arith)))

spelt : (x : ℕ) → Spelt x (decimal x)
unfolding decimal
spelt x = spelt_by (suc x) x (omega arith)

pub number_read : NumbersReadBack
unfolding item
number_read x = let s = spelt x in rw (s.is, s.value)

-- ---- lines

-- bytes of one line, and what they are read as
pub record Part (bytes : List ℕ) (items : List Item) : Type 0 where
  reads : read_line bytes ≡ items
  no_feed : lacks 10 bytes ≡ true

-- letters that are no number
pub word_part : (letters : List ℕ) → lacks 10 letters ≡ true → lacks 32 letters ≡ true → is_number letters ≡ false → Part letters (word letters ∷ [])
unfolding item
word_part letters f s n = record { no_feed = f; reads = rw (pieces_whole 32 letters s, n) }

-- a number
pub number_part : (x : ℕ) → Part (decimal x) (number x ∷ [])
number_part x =
    let s = spelt x in
    record {
      no_feed = digits_lack 10 (omega arith) (decimal x) s.digits;
      reads = rw (pieces_whole 32 (decimal x) (digits_lack 32 (omega arith) (decimal x) s.digits), number_read x);
    }

-- and behind a space
pub field_part : {bytes : List ℕ} {items : List Item} (x : ℕ) → Part bytes items → Part (bytes ++ field x) (items ++ number x ∷ [])
unfolding field
field_part {bytes} x p =
    let n = number_part x in
    record {
      reads = ap (map item) (pieces_split 32 bytes (decimal x)) ∙ map-append item (pieces 32 bytes) (pieces 32 (decimal x)) ∙ ap₂ ◌++◌ p.reads n.reads;
      no_feed = lacks-append 10 bytes (32 ∷ decimal x) p.no_feed n.no_feed;
    }

-- the bytes of a whole line, before any others
pub record Line (bytes : List ℕ) (items : List Item) : Type 0 where
  pub read : (rest : List ℕ) → read_text (bytes ++ rest) ≡ items ∷ read_text rest

pub line_ends : {bytes : List ℕ} {items : List Item} → Part bytes items → Line (bytes ++ ascii "\n") items
unfolding read_text
line_ends {bytes} p = record {
  read = λ rest.
      ap (λ s. map read_line (pieces 10 s)) (append_assoc bytes (10 ∷ []) rest)
      ∙ ap (map read_line) (pieces_split 10 bytes rest)
      ∙ rw (pieces_whole 10 bytes p.no_feed, p.reads);
}
