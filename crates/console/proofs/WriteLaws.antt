-- How many bytes a text shows, and what the output took of them.
use Prim.Native.Nat.{ℕ, ◌+◌, ◌-◌, ◌≤◌, min}
use mathlib.Core.Path.{◌≡◌, sym, ◌∙◌, ap}
use mathlib.Core.List.{List, ◌++◌, append_assoc}
use lib.ListN.{length, take, drop, length-take, length-drop}
use lib.Seq.{take_all, length-take-le}
use mathlib.Core.Logic.{by_cases}
use native.Mathlib.Decide.{dec_lt}
use native.Mathlib.Omega.{arith}
use Rattle.std.specs.Prelude.{None, Some}
use Rattle.std.proofs.Math.Seq.{take-append-add}
use Rattle.std.proofs.lemmas.List.{take-append-drop, take-take}
use Rattle.std.specs.declared.option.Option.{Option}
use Rattle.std.specs.Io.KnownBytes.{Appends}
use Rattle.text.specs.Shown.{shown}
use Rattle.text.specs.declared.Text.{Text}

-- a text shows as many bytes as its length says, or all that it has
pub front_shown : (t : Text) → length t.bytes ≡ 2560 → take (min t.length 2560) t.bytes ≡ shown t
unfolding shown
front_shown t l =
    by_cases (dec_lt t.length 2560)
    (λ h. let e : min t.length 2560 ≡ t.length = omega arith in ap (λ n. take n t.bytes) e)
    (λ h. take_all _ t.bytes (omega arith) ∙ sym (take_all t.length t.bytes (omega arith)))

-- what is written behind what was written before stands behind it
pub appends_both : (a b c : Option (List ℕ)) (bs cs : List ℕ) → Appends a b bs → Appends b c cs → Appends a c (bs ++ cs)
appends_both None b c bs cs p q = tt
appends_both (Some x) None c bs cs p q = absurd p
appends_both (Some x) (Some y) None bs cs p q = absurd q
appends_both (Some x) (Some y) (Some z) bs cs p q = q ∙ ap (λ l. l ++ cs) p ∙ append_assoc x bs cs

-- a front, and a front of what stands behind it
front_rest : (a r : ℕ) (xs : List ℕ) → a ≤ length xs → take a xs ++ take r (drop a xs) ≡ take (a + r) xs
front_rest a r xs within =
    sym (take-append-add (take a xs) (drop a xs) r) ∙ ap (λ n. take (n + r) (take a xs ++ drop a xs)) (length-take-le a xs within)
    ∙ ap (take (a + r)) (take-append-drop a xs)

-- a front, and a front of the rest
pub front_more : (a r : ℕ) (xs : List ℕ) → a ≤ length xs → take a xs ++ take r (take (length xs - a) (drop a xs)) ≡ take (a + r) xs
front_more a r xs within =
    let rest = take_all (length xs - a) (drop a xs) (omega (arith, length-drop a xs)) in
    ap (λ l. take a xs ++ take r l) rest ∙ front_rest a r xs within

-- a front, and as much of what stands from there up to b
pub front_part : (a b r : ℕ) (xs : List ℕ) → a ≤ length xs → r ≤ length (take (b - a) (drop a xs)) → take a xs ++ take r (take (b - a) (drop a xs)) ≡ take (a + r) xs
front_part a b r xs within fits =
    let few : r ≤ b - a = omega (arith, length-take (b - a) (drop a xs), fits) in
    ap (λ l. take a xs ++ l) (take-take r (b - a) (drop a xs) few) ∙ front_rest a r xs within
