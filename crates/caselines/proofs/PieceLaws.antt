-- The line of a call that stored a table: its start, and its pieces.
use Prim.Native.Nat.{ℕ, ◌*◌, min}
use mathlib.Core.Path.{◌≡◌, sym, ◌∙◌, ap}
use mathlib.Core.List.{List, []}
use mathlib.Core.Logic.{by_cases}
use native.Mathlib.Decide.{dec_lt}
use native.Mathlib.Omega.{arith}
use lib.ListN.{length, take, length-take}
use lib.Seq.{take_all, length-take-le}
use Rattle.decimal.specs.Joined.{joined}
use Rattle.text.specs.Shown.{shown, Appended}
use Rattle.text.specs.declared.Text.{Text}
use Rattle.decimal.specs.Decimal.{field}
use Rattle.text.proofs.ClipLaws.{append_both, append_whole}
use Rattle.refusal.specs.Outcome.{Outcome}
use Rattle.storing.specs.declared.Transfer.{Transfer}
use Rattle.caselines.specs.Lines.{outcome_fields, answer_start}

pub start_whole : {t a r : Text} (answer : Transfer) {o : Outcome} → shown t ≡ [] → answer.outcome ≡ o → Appended t (outcome_fields o) 41 a
    → Appended a (field answer.length) 21 r → shown r ≡ answer_start answer
unfolding answer_start
start_whole answer z i p q = append_whole z (append_both (rw (sym i) at p) q) (omega arith)

module _ {A : Type 0} (left : List A) {n : ℕ} (e : n ≡ min (length left) 100) where
  -- there are as many numbers as make a piece
  pub piece-there : n ≡ length (take n left)
  piece-there = sym (length-take-le n left (omega arith))

  piece_is : take n left ≡ take 100 left
  piece_is =
      by_cases (dec_lt (length left) 100)
      (λ h. take_all n left (omega arith) ∙ sym (take_all 100 left (omega arith)))
      (λ h. let f : n ≡ 100 = omega arith in ap (λ k. take k left) f)

  -- they fit a text
  pub piece_whole : (show : A → List ℕ) {t r : Text} → shown t ≡ [] → Appended t (joined show (take n left)) (21 * length (take n left)) r
      → shown r ≡ joined show (take 100 left)
  piece_whole show z p = append_whole z p (simp length-take (omega arith)) ∙ ap (joined show) piece_is
