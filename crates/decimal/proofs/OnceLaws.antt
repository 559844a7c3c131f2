-- No two texts are read alike: a text is what its items spell.
use Prim.Native.Nat.{ℕ, ◌+◌, ◌-◌, ◌*◌, ◌/◌, ◌%◌, ◌≤◌}
use mathlib.Core.Path.{◌≡◌, refl, sym, ◌∙◌, ap, ap₂}
use mathlib.Core.Bool.{Bool, true, false, cond, ◌&&◌, false≢true}
use mathlib.Core.List.{List, [], ◌∷◌, ◌++◌, map, append_assoc, append-nil}
use lib.Dec.{eqb, ltb, leb}
use native.Mathlib.Omega.{arith}
use borrow.Author.Tests.{leb-true, ltb-true, eqb-true}
use Rattle.decimal.specs.Decimal.{decimal}
use Rattle.decimal.specs.Reader.{Item, number, word, all_digits, is_number, value_from, item, ahead, pieces, read_line, read_text, ReadOnce}
use Rattle.decimal.proofs.DecimalLaws.{decimal-one, decimal-more}
use Rattle.decimal.proofs.BackLaws.{some_piece}

-- ---- numbers

-- both of two tests hold
both : (a b : Bool) → (a && b) ≡ true → (a ≡ true) × (b ≡ true)
both true b e = (refl, e)
both false b e = absurd (false≢true e)

in_digits : (b : ℕ) (bs : List ℕ) → all_digits (b ∷ bs) ≡ true → (48 ≤ b) × (b ≤ 57) × (all_digits bs ≡ true)
in_digits b bs d =
    let e = both (leb 48 b && leb b 57) (all_digits bs) d in
    let r = both (leb 48 b) (leb b 57) e.0 in
    (leb-true 48 b r.0, leb-true b 57 r.1, e.1)

-- the digits behind a number that is not 0 are its further digits
digits_behind : (v : ℕ) → 1 ≤ v → (bs : List ℕ) → all_digits bs ≡ true → decimal (value_from v bs) ≡ decimal v ++ bs
digits_behind v h [] d = sym (append-nil (decimal v))
digits_behind v h (b ∷ bs) d =
    let r = in_digits b bs d in
    let low : 48 ≤ b = r.0 in
    let high : b ≤ 57 = r.1 in
    let quotient : (10 * v + (b - 48)) / 10 ≡ v = omega arith in
    let last : 48 + (10 * v + (b - 48)) % 10 ≡ b = omega arith in
    digits_behind (10 * v + (b - 48)) (omega arith) bs r.2
    ∙ ap (λ l. l ++ bs) (decimal-more (10 * v + (b - 48)) (omega arith))
    ∙ ap₂ (λ (l : List ℕ) (x : ℕ). l ++ x ∷ [] ++ bs) (ap decimal quotient) last
    ∙ append_assoc (decimal v) (b ∷ []) bs

digit_back : (b : ℕ) → 48 ≤ b → b ≤ 57 → decimal (10 * 0 + (b - 48)) ≡ b ∷ []
digit_back b low high =
    let last : 48 + (10 * 0 + (b - 48)) % 10 ≡ b = omega arith in
    decimal-one (10 * 0 + (b - 48)) (omega arith) ∙ ap (λ (x : ℕ). x ∷ []) last

number_back : (bs : List ℕ) → is_number bs ≡ true → decimal (value_from 0 bs) ≡ bs
number_back [] d = absurd (false≢true d)
number_back (b ∷ []) d = let r = in_digits b [] d in digit_back b r.0 r.1
number_back (b ∷ c ∷ bs) d =
    let e = both (ltb 48 b) (all_digits (b ∷ c ∷ bs)) d in
    let r = in_digits b (c ∷ bs) e.1 in
    digits_behind (10 * 0 + (b - 48)) (omega (arith, ltb-true 48 b e.0)) (c ∷ bs) r.2 ∙ ap (λ l. l ++ c ∷ bs) (digit_back b r.0 r.1)

-- ---- items, lines and texts, as they are spelt

spell : Item → List ℕ
spell (number x) = decimal x
spell (word letters) = letters

item_back : (bs : List ℕ) → spell (item bs) ≡ bs
unfolding spell item
item_back bs = go (is_number bs) refl
  where
    go : (c : Bool) → is_number bs ≡ c → spell (cond c (number (value_from 0 bs)) (word bs)) ≡ bs
    go true e = number_back bs e
    go false e = refl

-- pieces with a byte between
glue : ℕ → List (List ℕ) → List ℕ
glue b [] = []
glue b (p ∷ []) = p
glue b (p ∷ q ∷ ps) = p ++ b ∷ glue b (q ∷ ps)

pieces_back : (b : ℕ) (xs : List ℕ) → glue b (pieces b xs) ≡ xs
unfolding glue pieces
pieces_back b [] = refl
pieces_back b (x ∷ xs) = go (eqb x b) refl (some_piece b xs) (pieces_back b xs)
  where
    first : (p : List ℕ) (ps : List (List ℕ)) → glue b ((x ∷ p) ∷ ps) ≡ x ∷ glue b (p ∷ ps)
    first p [] = refl
    first p (q ∷ ps) = refl

    go : (c : Bool) → eqb x b ≡ c → (p : List ℕ) × (ps : List (List ℕ)) × (pieces b xs ≡ p ∷ ps) → glue b (pieces b xs) ≡ xs → glue b (ahead c x (pieces b xs)) ≡ x ∷ xs
    go true e r back = rw r.2 (ap₂ (λ (y : ℕ) (l : List ℕ). y ∷ l) (sym (eqb-true x b e)) (ap (glue b) (sym r.2) ∙ back))
    go false e r back = rw r.2 (first r.0 r.1 ∙ ap (λ l. x ∷ l) (ap (glue b) (sym r.2) ∙ back))

undone : {A B : Type 0} (f : A → B) (g : B → A) → ((x : A) → g (f x) ≡ x) → (xs : List A) → map g (map f xs) ≡ xs
undone f g h [] = refl
undone f g h (x ∷ xs) = ap₂ (λ y l. y ∷ l) (h x) (undone f g h xs)

spell_line : List Item → List ℕ
spell_line items = glue 32 (map spell items)

line_back : (line : List ℕ) → spell_line (read_line line) ≡ line
unfolding spell_line
line_back line = ap (glue 32) (undone item spell item_back (pieces 32 line)) ∙ pieces_back 32 line

text_back : (text : List ℕ) → glue 10 (map spell_line (read_text text)) ≡ text
unfolding read_text
text_back text = ap (glue 10) (undone read_line spell_line line_back (pieces 10 text)) ∙ pieces_back 10 text

pub read_once : ReadOnce
read_once a b e = sym (text_back a) ∙ ap (λ lines. glue 10 (map spell_line lines)) e ∙ text_back b
