-- What is read behind what was read before stands behind it, and is what the input lost.
use Rattle.std.proofs.Common.{ℕ, ◌+◌, ◌≤◌, ◌≡◌, List, ◌++◌, None, Some, sym, ap, ◌∙◌, append_assoc, length, take, length-take-le}
use Rattle.std.proofs.Math.Seq.{take-append-add}
use Rattle.std.proofs.lemmas.List.{take-append-le}
use Rattle.std.specs.declared.option.Option.{Option}
use Rattle.std.specs.Io.KnownBytes.{Consumes}
use borrow.Rule.Slice.PartMut.{put_mid, post_of}

pub consumes_both : (a b c : Option (List ℕ)) (bs cs : List ℕ) → Consumes a b bs → Consumes b c cs → Consumes a c (bs ++ cs)
consumes_both None b c bs cs p q = tt
consumes_both (Some x) None c bs cs p q = absurd p
consumes_both (Some x) (Some y) None bs cs p q = absurd q
consumes_both (Some x) (Some y) (Some z) bs cs p q = p ∙ ap (λ l. bs ++ l) q ∙ sym (append_assoc bs cs z)

-- the front of a buffer whose part from a on became ys
pub front_more : (a k r : ℕ) (xs ys : List ℕ) → a ≤ length xs → r ≤ length ys → take a xs ++ take r ys ≡ take (a + r) (put_mid a k xs ys)
front_more a k r xs ys within fits =
    let rest = post_of a k xs in
    ap (λ l. take a xs ++ l) (sym (take-append-le r ys rest fits)) ∙ sym (take-append-add (take a xs) (ys ++ rest) r)
    ∙ ap (λ n. take (n + r) (put_mid a k xs ys)) (length-take-le a xs within)
